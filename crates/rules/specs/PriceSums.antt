-- The sums of which V is the average, facility by facility. Assumes nothing.
use Rattle.std.specs.Prelude.{◌≡◌, refl, ℕ, ◌+◌, ◌*◌, ◌≤◌, ◌<◌, ℤ, pos, nat_abs, ◌+ℤ◌, ◌*ℤ◌}
use Rattle.std.proofs.Common.{arith}
use Rattle.integer.proofs.laws.IntegerLaws.{parts, abs-add, abs-mul_le}
use Rattle.integer.specs.Below.{fold, sum_ℤ}
use Rattle.integer.proofs.laws.BelowLaws.{fold-suc, sum_ℕ-le, abs-sum_ℤ}
use Rattle.rulebook.specs.Units.{most_price, most_quantity}
use Rattle.rulebook.specs.ReferencePrice.{weight, total_weight, weighted_sum, average, reference_price}

-- Σ (MEP × weight), Σ weight, Σ MEP and the number of some facilities
pub record FacilitySums : Type 0 where
  pub weighted : ℤ
  pub weights : ℕ
  pub simple : ℤ
  pub facilities : ℕ

-- of n facilities
unfoldable pub sums_of : ℕ → (ℕ → ℤ) → (ℕ → ℤ) → FacilitySums
sums_of n mep ieq = record { weighted = weighted_sum n mep ieq; weights = total_weight n ieq; simple = sum_ℤ n mep; facilities = n }

-- of none
abbrev pub no_facility : FacilitySums
no_facility = record { weighted = pos 0; weights = 0; simple = pos 0; facilities = 0 }

-- with one facility more
abbrev pub added : FacilitySums → ℤ → ℤ → FacilitySums
added s mep ieq = record { weighted = s.weighted +ℤ mep *ℤ pos (weight ieq); weights = s.weights + weight ieq; simple = s.simple +ℤ mep; facilities = s.facilities + 1 }

pub sums-zero : (mep ieq : ℕ → ℤ) → no_facility ≡ sums_of 0 mep ieq
unfolding sums_of fold
sums-zero mep ieq = refl

pub sums-suc : (n : ℕ) (mep ieq : ℕ → ℤ) → sums_of (n + 1) mep ieq ≡ added (sums_of n mep ieq) (mep n) (ieq n)
unfolding sums_of
sums-suc n mep ieq = rw (
  fold-suc ◌+ℤ◌ (pos 0) n (λ f. mep f *ℤ pos (weight (ieq f))),
  fold-suc ◌+◌ 0 n (λ f. weight (ieq f)),
  fold-suc ◌+ℤ◌ (pos 0) n mep,
)

-- what the sums of facilities in range stay within
pub record SumsWithin (s : FacilitySums) : Type 0 where
  pub weighted : nat_abs s.weighted ≤ s.facilities * (most_price * most_quantity)
  pub weights : s.weights ≤ s.facilities * most_quantity
  pub simple : nat_abs s.simple ≤ s.facilities * most_price

pub weight-le : (z : ℤ) → nat_abs z ≤ most_quantity → weight z ≤ most_quantity
weight-le z h = omega (arith, (parts z).abs)

-- with one facility in range more
pub within-added : (s : FacilitySums) (mep ieq : ℤ) → SumsWithin s → nat_abs mep ≤ most_price → nat_abs ieq ≤ most_quantity → SumsWithin (added s mep ieq)
within-added s mep ieq h p q =
    let w = h.weighted in
    let m = h.simple in
    let v = h.weights in
    let k = weight-le ieq q in
    record {
      weighted = omega (arith, abs-add s.weighted (mep *ℤ pos (weight ieq)), abs-mul_le mep (pos (weight ieq)) most_price most_quantity p k);
      weights = omega arith;
      simple = omega (arith, abs-add s.simple mep);
    }

pub sums-count : (n : ℕ) (mep ieq : ℕ → ℤ) → (sums_of n mep ieq).facilities ≡ n
unfolding sums_of
sums-count n mep ieq = refl

pub sums-within : (n : ℕ) (mep ieq : ℕ → ℤ) → ((f : ℕ) → f < n → nat_abs (mep f) ≤ most_price) → ((f : ℕ) → f < n → nat_abs (ieq f) ≤ most_quantity) → SumsWithin (sums_of n mep ieq)
unfolding sums_of
sums-within n mep ieq p q = record {
  weighted = abs-sum_ℤ n (most_price * most_quantity) (λ f. mep f *ℤ pos (weight (ieq f))) (λ f l. abs-mul_le (mep f) (pos (weight (ieq f))) most_price most_quantity (p f l) (weight-le (ieq f) (q f l)));
  weights = sum_ℕ-le n most_quantity (λ f. weight (ieq f)) (λ f l. weight-le (ieq f) (q f l));
  simple = abs-sum_ℤ n most_price mep p;
}

-- their average is V
pub sums-price : (n : ℕ) (mep ieq : ℕ → ℤ) → average (sums_of n mep ieq).weighted (sums_of n mep ieq).weights (sums_of n mep ieq).simple (sums_of n mep ieq).facilities ≡ reference_price n mep ieq
unfolding sums_of reference_price
sums-price n mep ieq = refl
