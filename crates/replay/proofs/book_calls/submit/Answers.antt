-- `submit` meets its contract: the words lent come back before those beyond.
use Rattle.replay.specs.Frames.{Submits}
use Rattle.replay.proofs.laws.FrameLaws.{lent_of, submits_of}
use borrow.Author.Rules.{rules}
use Rattle.replay.proofs.book_calls.submit.Goals as goal

pub returns : goal.returns
returns c =
    lent_of _ c.args.book.now _ c.count-n.ensures.0 (search rules) Submits (submits_of c.submit_from.ensures)
