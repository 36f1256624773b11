-- `posted_amount` meets its contract: each of the 48 turns has `absorb` take one interval's amount, which has room; the day's sum is below 5 × 10^15, so it
-- can be posted.
use Rattle.std.specs.Int.{w64}
use Rattle.std.proofs.Common.{◌≡◌, ℤ, ◌+◌, ◌<◌, nat_abs, length, length-set, sym, ap, ◌∙◌, arith, to_z, of_z}
use Rattle.integer.proofs.laws.IntegerLaws.{abs-add}
use Rattle.integer.proofs.Bits.{got, fits-add}
use Rattle.integer.proofs.laws.WordsLaws.{filled_zero, filled-step, filled-whole}
use Rattle.rulebook.specs.Units.{intervals}
use Rattle.rulebook.proofs.laws.DayAmountLaws.{left-within}
use Rattle.amounts.specs.Total.{absorbed, posted_of}
use Rattle.amounts.specs.declared.total.DayTotal.{DayTotal}
use Rattle.amounts.specs.Day.{sum_before, sums_before, total_to, slot_posted}
use Rattle.amounts.proofs.laws.DayLaws.{sum_at, filled-rest, total-zero, total-suc}
use Rattle.amounts.proofs.day.posted_amount.Goals as goal
use Rattle.amounts.proofs.day.posted_amount.Goals.{After-slot_amount, After-loop-h}

pub loop-h-init : goal.loop-h-init
loop-h-init c =
    let a = c.args in
    (c.told-sums, total-zero a.today.accounts a.today.words.now a.then.now a.a, omega arith, sym (filled_zero _ _))

pub slot_amount-requires : goal.slot_amount-requires
slot_amount-requires c =
    let a = c.args in
    let h = c.loop-h.h in
    let k = c.loop-h-test.true in (
      c.requires.0,
      c.requires.1,
      k,
      rw (c.loop-h.invariant.3, filled-rest h (sum_before a.then.now (a.a + 1)) a.sums.now, c.requires.2) (sum_at a.then.now a.a h k),
    )

-- the turn's amount, read back
amount : (c : After-slot_amount) → to_z w64 (of_z w64 c.slot_amount.result) ≡ c.slot_amount.result
amount c = got c.slot_amount.result c.slot_amount.type_inv

pub absorb-requires : goal.absorb-requires
absorb-requires c =
    let t = c.loop-h.total.thousandths in
    let k = c.loop-h-test.true in
    rw (amount (goal.at.absorb-requires c).After-slot_amount) (fits-add t c.slot_amount.result (omega (arith, c.loop-h.invariant.2, c.slot_amount.ensures.small)))

pub loop-h-preserved : goal.loop-h-preserved
loop-h-preserved c =
    let a = c.args in
    let l = c.loop-h in
    let s = c.slot_amount in
    let e = c.absorb.ensures ∙ ap (λ (z : ℤ). absorbed l.total z) (amount (goal.at.loop-h-preserved c).After-slot_amount) in
    let k : l.h < length a.sums.now = omega (arith, c.told-sums, c.loop-h-test.true) in (
      simp length-set l.invariant.0,
      e ∙ rw (s.ensures.amount, l.invariant.1) (sym (total-suc a.today.accounts a.today.words.now a.then.now a.a l.h)),
      omega (arith, ap (λ (t : DayTotal). nat_abs t.thousandths) e, abs-add l.total.thousandths s.result, l.invariant.2, s.ensures.small),
      filled-step l.h (sum_before a.then.now (a.a + 1)) a.sums.now k l.invariant.3 s.ensures.sum,
    )

ended : (c : After-loop-h) → c.loop-h.h ≡ intervals
ended c = omega arith

pub posted-requires : goal.posted-requires
posted-requires c = omega (arith, ended (goal.at.posted-requires c).After-loop-h, c.loop-h.invariant.2)

pub returns-clause-small : goal.returns-clause-small
returns-clause-small c = rw c.posted.ensures (left-within c.loop-h.total.thousandths)

pub returns-clause-amount : goal.returns-clause-amount
unfolding slot_posted
returns-clause-amount c =
    let a = c.args in
    let g = (goal.at.returns-clause-amount c).After-loop-h in
    c.posted.ensures ∙ ap posted_of (c.loop-h.invariant.1 ∙ ap (total_to a.today.accounts a.today.words.now a.then.now a.a) (ended g))

pub returns-clause-sums : goal.returns-clause-sums
unfolding sums_before
returns-clause-sums c =
    let a = c.args in
    filled-whole c.loop-h.h intervals (sum_before a.then.now (a.a + 1)) a.sums.now c.told-sums (ended (goal.at.returns-clause-sums c).After-loop-h) c.loop-h.invariant.3
