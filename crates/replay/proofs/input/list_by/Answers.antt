-- `list_by` meets its contract: what is read comes back before what lies beyond.
use native.Mathlib.Omega.{arith}
use borrow.Author.Rules.{rules}
use Rattle.replay.proofs.laws.FrameLaws.{listed_of}
use Rattle.replay.proofs.input.list_by.Goals as goal

pub returns : goal.returns
returns c = listed_of _ c.args.space.now _ (omega (arith, c.at_most-n.ensures, c.min.ensures)) (search rules) _ c.words_in.ensures
