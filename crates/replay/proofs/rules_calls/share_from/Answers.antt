-- `share_from` meets its contract: the words lent come back before those beyond.
use mir.Syntax.{w64}
use mir.ValLaws.{to_z-of_z}
use Rattle.replay.proofs.laws.FrameLaws.{shared_of}
use borrow.Author.Rules.{rules}
use Rattle.replay.proofs.rules_calls.share_from.Goals as goal

pub returns : goal.returns
returns c =
    let r = to_z-of_z w64 c.args.r c.ranges.r in
    shared_of _ c.args.space.now _ c.count-n.ensures.0 (search rules) _ _ _ r c.list-m.ensures.0.0 c.list-m.ensures.1 c.share_to.ensures
