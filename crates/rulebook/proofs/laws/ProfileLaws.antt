-- Profiles: the test of the limits is the rule, and a total is possible exactly if some quantities keep them. Assumes nothing.
use Rattle.std.specs.Prelude.{◌≡◌, Bool, true, ℕ, ◌+◌, ◌*◌, ◌/◌, ◌≤◌, ◌<◌, leb, eqb}
use Rattle.std.proofs.Common.{ap, ◌∙◌, add_assoc, add-mul, one-mul, arith, leb-true, le-leb, eqb-true, eq-eqb}
use Rattle.integer.specs.Below.{all, sum_ℕ}
use Rattle.integer.proofs.laws.BelowLaws.{and-true, all_at, all_of, fold-by_two, sum_ℕ-le, sum_ℕ-ge, sum_ℕ-rises}
use Rattle.rulebook.specs.Units.{intervals, most_quantity}
use Rattle.rulebook.specs.Profile.{balancing_periods, period_kwh, KeepsLimits, least_kwh, most_kwh, period_fits, keeps_limits, total_possible, evenly, most_contracted}

-- ---- From the least to the most

limits-within : (least most kwh : ℕ) → period_fits least most kwh ≡ true → (least ≤ kwh) × (kwh ≤ most)
limits-within least most kwh e = let t = and-true (leb least kwh) (leb kwh most) e in (leb-true least kwh t.0, leb-true kwh most t.1)

within-limits : (least most kwh : ℕ) → least ≤ kwh → kwh ≤ most → period_fits least most kwh ≡ true
within-limits least most kwh l m = rw (le-leb least kwh l, le-leb kwh most m)

-- ---- All periods and the total

-- the 48 quantities, two at a time
pub total-by_periods : (q : ℕ → ℕ) → sum_ℕ intervals q ≡ sum_ℕ balancing_periods (period_kwh q)
total-by_periods q = fold-by_two ◌+◌ 0 add_assoc balancing_periods q

pub keeps-limits : (t d : ℕ) (q : ℕ → ℕ) → keeps_limits t d q ≡ true → KeepsLimits t d q
unfolding keeps_limits
keeps-limits t d q e = record {
  floor = λ b l. omega (arith, (within b l).0);
  cap = λ b l. omega (arith, (within b l).1);
  total = eqb-true (sum_ℕ intervals q) t tests.1;
}
  where
    fits : ℕ → Bool
    fits b = period_fits (least_kwh d) (most_kwh d) (period_kwh q b)

    tests : (all balancing_periods fits ≡ true) × (eqb (sum_ℕ intervals q) t ≡ true)
    tests = and-true (all balancing_periods fits) (eqb (sum_ℕ intervals q) t) e

    within : (b : ℕ) → b < balancing_periods → (least_kwh d ≤ period_kwh q b) × (period_kwh q b ≤ most_kwh d)
    within b l = limits-within (least_kwh d) (most_kwh d) (period_kwh q b) (all_at balancing_periods fits tests.0 b l)

pub limits-keep : (t d : ℕ) (q : ℕ → ℕ) → KeepsLimits t d q → keeps_limits t d q ≡ true
unfolding keeps_limits
limits-keep t d q k =
    rw (
      all_of balancing_periods (λ b. period_fits (least_kwh d) (most_kwh d) (period_kwh q b))
          (λ b l. within-limits (least_kwh d) (most_kwh d) (period_kwh q b) (omega (arith, k.floor b l)) (omega (arith, k.cap b l))),
      eq-eqb (sum_ℕ intervals q) t k.total,
    )

-- ---- A possible total

pub keeping_possible : (t d : ℕ) (q : ℕ → ℕ) → KeepsLimits t d q → total_possible t d ≡ true
unfolding total_possible
keeping_possible t d q k =
    let e = total-by_periods q in
    let l = sum_ℕ-ge balancing_periods (least_kwh d) (period_kwh q) (λ b h. omega (arith, k.floor b h)) in
    let m = sum_ℕ-le balancing_periods (most_kwh d) (period_kwh q) (λ b h. omega (arith, k.cap b h)) in
    within-limits (balancing_periods * least_kwh d) (balancing_periods * most_kwh d) t (omega (arith, k.total)) (omega (arith, k.total))

-- the kWh before index i, of T spread evenly
abbrev spread : ℕ → ℕ → ℕ
spread t i = i * t / intervals

one_more : (t i : ℕ) → (i + 1) * t ≡ i * t + t
one_more t i = add-mul i 1 t ∙ ap (λ (x : ℕ). i * t + x) (one-mul t)

pub even-keeps : (t d : ℕ) → total_possible t d ≡ true → KeepsLimits t d (evenly t)
unfolding total_possible
even-keeps t d e = record {
  floor = λ b l. omega (arith, (within b).0);
  cap = λ b l. omega (arith, (within b).1);
  total = omega (arith, sum_ℕ-rises intervals (spread t) (λ i l. omega (arith, one_more t i)));
}
  where
    ends : (balancing_periods * least_kwh d ≤ t) × (t ≤ balancing_periods * most_kwh d)
    ends = limits-within (balancing_periods * least_kwh d) (balancing_periods * most_kwh d) t e

    within : (b : ℕ) → (least_kwh d ≤ period_kwh (evenly t) b) × (period_kwh (evenly t) b ≤ most_kwh d)
    within b =
        let x = one_more t (2 * b) in
        let y = one_more t (2 * b + 1) in
        (omega (arith, ends.0), omega (arith, ends.1))

-- each of such quantities is in range
pub even-quantity : (t d : ℕ) → total_possible t d ≡ true → d ≤ most_contracted → (i : ℕ) → evenly t i ≤ most_quantity
unfolding total_possible
even-quantity t d e h i =
    omega (arith, (limits-within (balancing_periods * least_kwh d) (balancing_periods * most_kwh d) t e).1, one_more t i)
