-- `span_of` meets its contract. The invariant: every word of the periods so far is a quantity, and the span is theirs; two words at a time are all
-- 48 (`fold-by_two`).
use Rattle.std.specs.Int.{w64}
use Rattle.std.proofs.Common.{◌≡◌, ℕ, ℤ, ◌+◌, ◌*◌, ◌&&◌, true, false, length, List, refl, sym, ap, ◌∙◌, arith, rules, Ok, to_z, of_z, ◌/◌, ◌<◌, ◌≤◌, [], get_or}
use Rattle.std.proofs.Math.Bool.{and_assoc, and-false}
use Rattle.std.specs.Simd.{first_chunks}
use Rattle.std.proofs.lemmas.Result.{err_from_is_err_and}
use Rattle.integer.specs.Below.{fold, all}
use Rattle.integer.proofs.laws.BelowLaws.{fold-by_two, all_more, all_fails}
use Rattle.integer.specs.Words.{word}
use Rattle.rulebook.specs.declared.Kind.TheVariants.{Quantity}
use Rattle.rulebook.specs.Units.{intervals, in_range, as_quantity, most_quantity}
use Rattle.rulebook.proofs.laws.UnitsLaws.{quantity-range}
use Rattle.rulebook.specs.Profile.{balancing_periods, period_kwh}
use Rattle.rulebook.specs.Calls.{all_in_range, quantities_in}
use Rattle.rules.specs.declared.profile.Span.{Span}
use Rattle.rules.specs.PeriodsTold.{period_in_range}
use Rattle.rules.proofs.laws.ToldLaws.{told_ok, told_err}
use Rattle.rules.proofs.laws.PeriodsToldLaws.{span_zero, span_suc, period-words}
use Rattle.rules.proofs.profile.span_of.Goals as goal
use Rattle.rules.proofs.profile.span_of.Goals.{After-as_chunks, In-loop-first, In_ok-kwh}

-- all words are quantities, two at a time
all-quantities : (profile : List ℤ) → length profile ≡ intervals → all_in_range Quantity profile ≡ all balancing_periods (period_in_range profile)
unfolding all_in_range
all-quantities profile n = rw n (fold-by_two ◌&&◌ true and_assoc balancing_periods (λ i. in_range Quantity (word profile i)))

-- the pairs
pairs : (c : After-as_chunks) → c.as_chunks.result.0.now ≡ first_chunks 2 balancing_periods c.args.profile.now
pairs c = c.as_chunks.ensures.front ∙ ap (λ (k : ℕ). first_chunks 2 (k / 2) c.args.profile.now) c.requires

pub loop-first-init : goal.loop-first-init
unfolding fold
loop-first-init c = (refl, span_zero (period_kwh (quantities_in c.args.profile.now)), omega arith)

-- the turn is that of a period
below : (c : In-loop-first) → c.loop-first.first-index < balancing_periods
below c = omega (arith, c.as_chunks.ensures.front_len, c.requires, c.loop-first-test.true)

pub returns-in_err-quantity : goal.returns-in_err-quantity
returns-in_err-quantity c =
    let xs = c.args.profile.now in
    let b = c.loop-first.first-index in
    let w = word (get_or c.as_chunks.result.0.now b []) 0 in
    let x : to_z w64 (of_z w64 w) ≡ w = search rules in
    let g = goal.at.returns-in_err-quantity c in
    let e = (period-words xs b _ (below g.In-loop-first) (ap (λ (ps : List (List ℤ)). get_or ps b []) (pairs g.After-as_chunks))).0 in
    let p = err_from_is_err_and c.from_residual.result c.from_residual.ensures.1 in
    let t = told_err _ _ _ c.in_err-quantity.ensures in
    let z : in_range Quantity (word xs (2 * b)) ≡ false = rw (x, e) at t.0 in
    rw (p.1, p.2, t.1, all-quantities xs c.requires, all_fails balancing_periods (period_in_range xs) b (below g.In-loop-first) (rw z))

pub returns-in_err-kwh : goal.returns-in_err-kwh
returns-in_err-kwh c =
    let xs = c.args.profile.now in
    let b = c.loop-first.first-index in
    let w = word (get_or c.as_chunks.result.0.now b []) 1 in
    let x : to_z w64 (of_z w64 w) ≡ w = search rules in
    let g = goal.at.returns-in_err-kwh c in
    let e = (period-words xs b _ (below g.In-loop-first) (ap (λ (ps : List (List ℤ)). get_or ps b []) (pairs g.After-as_chunks))).1 in
    let r = c.from_residual-in_err-kwh in
    let p = err_from_is_err_and r.result r.ensures.1 in
    let t = told_err _ _ _ c.in_err-kwh.ensures in
    let z : in_range Quantity (word xs (2 * b + 1)) ≡ false = rw (x, e) at t.0 in
    rw (p.1, p.2, t.1, all-quantities xs c.requires, all_fails balancing_periods (period_in_range xs) b (below g.In-loop-first) (rw (z, and-false (in_range Quantity (word xs (2 * b))))))

-- both words of the turn's period are quantities
record Judged (c : In_ok-kwh) : Type 0 where
  passed : period_in_range c.args.profile.now c.loop-first.first-index ≡ true
  kwh : c.in_ok-quantity.field-0 + c.in_ok-kwh.field-0 ≡ period_kwh (quantities_in c.args.profile.now) c.loop-first.first-index
  small : c.in_ok-quantity.field-0 + c.in_ok-kwh.field-0 ≤ 2 * most_quantity

judged : (c : In_ok-kwh) → c.loop-first.first-index < balancing_periods → c.as_chunks.result.0.now ≡ first_chunks 2 balancing_periods c.args.profile.now → Judged c
judged c k q =
    let xs = c.args.profile.now in
    let b = c.loop-first.first-index in
    let v = word (get_or c.as_chunks.result.0.now b []) 0 in
    let w = word (get_or c.as_chunks.result.0.now b []) 1 in
    let x : to_z w64 (of_z w64 v) ≡ v = search rules in
    let y : to_z w64 (of_z w64 w) ≡ w = search rules in
    let e = period-words xs b _ k (ap (λ (ps : List (List ℤ)). get_or ps b []) q) in
    let s = told_ok _ _ _ c.in_ok-quantity.ensures in
    let t = told_ok _ _ _ c.in_ok-kwh.ensures in
    let m : in_range Quantity (word xs (2 * b)) ≡ true = rw (x, e.0) at s.0 in
    let n : in_range Quantity (word xs (2 * b + 1)) ≡ true = rw (y, e.1) at t.0 in
    let i : c.in_ok-quantity.field-0 ≡ as_quantity (word xs (2 * b)) = rw (x, e.0) at s.1 in
    let j : c.in_ok-kwh.field-0 ≡ as_quantity (word xs (2 * b + 1)) = rw (y, e.1) at t.1 in
    record {
      passed = rw (m, n);
      kwh = rw (i, j);
      small = omega (arith, i, j, (quantity-range (word xs (2 * b)) m).most, (quantity-range (word xs (2 * b + 1)) n).most);
    }

pub with_period-span-requires : goal.with_period-span-requires
with_period-span-requires c =
    let g = goal.at.with_period-span-requires c in
    let j = judged g.In_ok-kwh (below g.In-loop-first) (pairs g.After-as_chunks) in
    (omega (arith, c.loop-first.invariant.2, below g.In-loop-first), j.small)

pub loop-first-preserved : goal.loop-first-preserved
loop-first-preserved c =
    let g = goal.at.loop-first-preserved c in
    let j = judged g.In_ok-kwh (below g.In-loop-first) (pairs g.After-as_chunks) in
    let l = c.loop-first in
    let xs = c.args.profile.now in (
      all_more l.first-index (period_in_range xs) l.invariant.0 j.passed,
      rw (c.with_period-span.ensures, l.invariant.1, j.kwh) (sym (span_suc l.first-index (period_kwh (quantities_in xs)))),
      omega (arith, ap (λ (s : Span). s.total) c.with_period-span.ensures, l.invariant.2, j.small),
    )

pub returns : goal.returns
returns c =
    let l = c.loop-first in
    let xs = c.args.profile.now in
    let e : l.first-index ≡ balancing_periods = omega (arith, c.as_chunks.ensures.front_len, c.requires, c.loop-first-test.false, l.auto.first-index-end) in
    rw (all-quantities xs c.requires, rw e at l.invariant.0) (ap Ok (rw e at l.invariant.1))
