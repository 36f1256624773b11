-- `share_by` meets its contract: the edition picks the rule; more UEGQ bring no smaller share, and the difference is the rule's (`second_is`).
use Rattle.std.proofs.Common.{arith, sym}
use Rattle.rulebook.specs.Shares.{share_by}
use Rattle.rulebook.proofs.laws.SecondShareLaws.{second_is, share-rises}
use Rattle.rules.proofs.share.Residual.share_by.Goals as goal

pub overflow_sub-result : goal.overflow_sub-result
overflow_sub-result c = let a = c.args in omega (arith, share-rises a.self.load a.self.spare a.before a.u)

pub returns-in-First : goal.returns-in-First
unfolding share_by
returns-in-First c = rw c.in-First.is c.share.ensures

pub returns-in-Second : goal.returns-in-Second
unfolding share_by
returns-in-Second c =
    let a = c.args in
    rw (c.in-Second.is, c.share-in-Second.ensures, c.share-in-Second-2.ensures) (sym (second_is a.self.load a.self.spare a.before a.u))
