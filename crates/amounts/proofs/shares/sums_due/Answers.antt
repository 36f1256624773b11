-- `sums_due` meets its contract: each call adds the account's UEGQ of its interval.
use Rattle.std.proofs.Common.{◌≡◌, ℕ, ◌+◌, get_or, arith, rules}
use Rattle.std.proofs.lemmas.List.{get_or-replicate}
use Rattle.rulebook.specs.Units.{intervals}
use Rattle.amounts.specs.Day.{uegq_in}
use Rattle.amounts.specs.Shares.{sums_with}
use Rattle.amounts.proofs.laws.DayLaws.{made-of}
use Rattle.amounts.proofs.laws.SharesLaws.{sums-ranged}
use Rattle.amounts.proofs.shares.sums_due.Goals as goal
use Rattle.amounts.proofs.shares.sums_due.Goals.{After-from_fn}

sums : (c : After-from_fn) → c.from_fn.result ≡ sums_with c.in-Some.slot.accounts c.in-Some.slot.words.now c.args.sums.now c.args.a
unfolding sums_with
sums c =
    let s = c.in-Some.slot in
    made-of _ _ (λ i. get_or c.args.sums.now i 0 + uegq_in s.accounts s.words.now c.args.a i) c.from_fn.result 0 48 (λ j y q l e. search rules) c.from_fn.ensures.items

pub returns-in-Some-clause-sums : goal.returns-in-Some-clause-sums
returns-in-Some-clause-sums c = rw c.in-Some.is (sums (goal.at.returns-in-Some-clause-sums c).After-from_fn)

pub returns-in-Some-clause-ranged : goal.returns-in-Some-clause-ranged
returns-in-Some-clause-ranged c =
    let e = sums (goal.at.returns-in-Some-clause-ranged c).After-from_fn in
    rw e (sums-ranged c.in-Some.slot c.args.sums.now c.args.a (c.requires.0 c.in-Some.slot c.in-Some.is) c.requires.1)

pub returns-in-None-clause-ranged : goal.returns-in-None-clause-ranged
returns-in-None-clause-ranged c i h = omega (arith, get_or-replicate {A = ℕ} intervals i 0 0 h)
