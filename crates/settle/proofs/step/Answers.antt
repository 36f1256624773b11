-- `step` meets its contract: what was read lies within the lent bytes, and is performed.
use mathlib.Core.Path.{sym}
use lib.Seq.{length-take-le}
use borrow.Author.Rules.{rules}
use Rattle.settle.proofs.step.Goals as goal

pub slice_bounds-perform-end-2 : goal.slice_bounds-perform-end-2
slice_bounds-perform-end-2 c = sym (length-take-le _ _ (search rules))

pub returns : goal.returns
returns c =
    record { read = _; item = c.read_item-got.ensures.1; done = c.perform.ensures }
