-- `interval_size` meets its contract: N is at most 32.
use native.Mathlib.Omega.{arith}
use Rattle.rulebook.specs.Layout.{interval_size}
use Rattle.book.proofs.places.interval_size.Goals as goal

pub returns : goal.returns
unfolding interval_size
returns c = let t = c.get.ensures.accepted in rw (c.interval_length.ensures, c.get.ensures.same) (omega arith, omega arith)
