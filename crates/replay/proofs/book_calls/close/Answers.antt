-- `close` meets its contract: the words lent come back before those beyond, and the statement is what the space had.
use Rattle.replay.specs.Frames.{Closes}
use Rattle.replay.proofs.laws.FrameLaws.{lent_of, closes-of}
use borrow.Author.Rules.{rules}
use Rattle.replay.proofs.book_calls.close.Goals as goal

pub returns : goal.returns
returns c =
    lent_of _ c.args.book.now _ c.count-n.ensures.0 (search rules) Closes (closes-of c.close_with.ensures)
