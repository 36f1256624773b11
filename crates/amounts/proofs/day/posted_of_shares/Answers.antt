-- `posted_of_shares` meets its contract: each of the 48 turns has `absorb` take one interval's amount, which has room; the day's sum is below 5 × 10^15, so
-- it can be posted.
use Rattle.std.specs.Int.{w64}
use Rattle.std.proofs.Common.{◌≡◌, ℤ, nat_abs, sym, ap, ◌∙◌, arith, to_z, of_z}
use Rattle.integer.proofs.laws.IntegerLaws.{abs-add}
use Rattle.integer.proofs.Bits.{got, fits-add}
use Rattle.rulebook.specs.Units.{intervals}
use Rattle.rulebook.proofs.laws.DayAmountLaws.{left-within}
use Rattle.amounts.specs.Total.{absorbed, posted_of}
use Rattle.amounts.specs.declared.total.DayTotal.{DayTotal}
use Rattle.amounts.specs.Shares.{shares_total, shares_posted}
use Rattle.amounts.proofs.laws.SharesLaws.{shares_total-zero, shares_total-suc}
use Rattle.amounts.proofs.day.posted_of_shares.Goals as goal
use Rattle.amounts.proofs.day.posted_of_shares.Goals.{After-shared_amount, After-loop-h}

pub loop-h-init : goal.loop-h-init
loop-h-init c =
    let a = c.args in
    (shares_total-zero a.today.accounts a.today.words.now a.then.now a.shares.now a.a, omega arith)

-- the turn's amount, read back
amount : (c : After-shared_amount) → to_z w64 (of_z w64 c.shared_amount.result) ≡ c.shared_amount.result
amount c = got c.shared_amount.result c.shared_amount.type_inv

pub absorb-requires : goal.absorb-requires
absorb-requires c =
    let t = c.loop-h.total.thousandths in
    let k = c.loop-h-test.true in
    rw (amount (goal.at.absorb-requires c).After-shared_amount)
    (fits-add t c.shared_amount.result (omega (arith, c.told-shares, c.loop-h.invariant.1, c.shared_amount.ensures.small)))

pub loop-h-preserved : goal.loop-h-preserved
loop-h-preserved c =
    let a = c.args in
    let l = c.loop-h in
    let s = c.shared_amount in
    let e = c.absorb.ensures ∙ ap (λ (z : ℤ). absorbed l.total z) (amount (goal.at.loop-h-preserved c).After-shared_amount) in (
      e ∙ rw (s.ensures.amount, l.invariant.0) (sym (shares_total-suc a.today.accounts a.today.words.now a.then.now a.shares.now a.a l.h)),
      omega (arith, ap (λ (t : DayTotal). nat_abs t.thousandths) e, abs-add l.total.thousandths s.result, l.invariant.1, s.ensures.small),
    )

ended : (c : After-loop-h) → c.loop-h.h ≡ intervals
ended c = omega arith

pub posted-requires : goal.posted-requires
posted-requires c = omega (arith, ended (goal.at.posted-requires c).After-loop-h, c.loop-h.invariant.1)

pub returns-clause-small : goal.returns-clause-small
returns-clause-small c = rw c.posted.ensures (left-within c.loop-h.total.thousandths)

pub returns-clause-amount : goal.returns-clause-amount
unfolding shares_posted
returns-clause-amount c =
    let a = c.args in
    let g = (goal.at.returns-clause-amount c).After-loop-h in
    c.posted.ensures ∙ ap posted_of (c.loop-h.invariant.0 ∙ ap (shares_total a.today.accounts a.today.words.now a.then.now a.shares.now a.a) (ended g))
