-- `pack_from` meets its contract: the bytes lent come back before those beyond.
use Rattle.replay.proofs.laws.FrameLaws.{packed-of}
use borrow.Author.Rules.{rules}
use Rattle.replay.proofs.packed_calls.pack_from.Goals as goal

pub returns : goal.returns
returns c =
    packed-of _ c.args.bytes.now _ _ c.file-n.ensures.0.0 (search rules) _ c.args.words.now _ c.list-m.ensures.0.0 c.list-m.ensures.1 c.file-n.ensures.1
    c.pack_to.ensures
