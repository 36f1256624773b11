-- `shares_due` meets its contract: each call gives the share of its interval.
use Rattle.std.proofs.Common.{◌≡◌, ℕ, arith, rules}
use Rattle.std.proofs.lemmas.List.{get_or-replicate}
use Rattle.rulebook.specs.Units.{intervals}
use Rattle.amounts.specs.Shares.{share_after, shares_of}
use Rattle.amounts.proofs.laws.DayLaws.{made-of}
use Rattle.amounts.proofs.laws.SharesLaws.{shares-ranged}
use Rattle.amounts.proofs.shares.shares_due.Goals as goal
use Rattle.amounts.proofs.shares.shares_due.Goals.{After-from_fn}

shares : (c : After-from_fn) → c.from_fn.result ≡ shares_of c.args.edition c.in-Some.slot.accounts c.in-Some.slot.words.now c.args.residuals.now c.args.sums.now c.args.a
unfolding shares_of
shares c =
    let s = c.in-Some.slot in
    made-of _ _ (share_after c.args.edition s.accounts s.words.now c.args.residuals.now c.args.sums.now c.args.a) c.from_fn.result 0 48 (λ j y q l e. search rules) c.from_fn.ensures.items

pub returns-in-Some-clause-shares : goal.returns-in-Some-clause-shares
returns-in-Some-clause-shares c = rw c.in-Some.is (shares (goal.at.returns-in-Some-clause-shares c).After-from_fn)

pub returns-in-Some-clause-ranged : goal.returns-in-Some-clause-ranged
returns-in-Some-clause-ranged c =
    let e = shares (goal.at.returns-in-Some-clause-ranged c).After-from_fn in
    let a = c.args in
    rw e (shares-ranged a.edition c.in-Some.slot a.residuals.now a.sums.now a.a (c.requires.0 c.in-Some.slot c.in-Some.is))

pub returns-in-None-clause-ranged : goal.returns-in-None-clause-ranged
returns-in-None-clause-ranged c i h = omega (arith, get_or-replicate {A = ℕ} intervals i 0 0 h)
