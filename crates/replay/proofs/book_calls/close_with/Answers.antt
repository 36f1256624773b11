-- `close_with` meets its contract: the statement comes back before the words beyond.
use Rattle.replay.proofs.laws.FrameLaws.{closed-with_of}
use borrow.Author.Rules.{rules}
use Rattle.replay.proofs.book_calls.close_with.Goals as goal

pub returns : goal.returns
returns c =
    closed-with_of _ c.args.space.now _ c.count-n.ensures.0 (search rules) _ _ c.close_lent.ensures
