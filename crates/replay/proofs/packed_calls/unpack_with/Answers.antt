-- `unpack_with` meets its contract: the words lent come back before those beyond.
use Rattle.replay.proofs.laws.FrameLaws.{unpacked_of}
use borrow.Author.Rules.{rules}
use Rattle.replay.proofs.packed_calls.unpack_with.Goals as goal

pub returns : goal.returns
returns c =
    unpacked_of _ c.args.words.now _ c.count-n.ensures.0 (search rules) _ c.unpack_to.ensures
