-- V lies between the least and the greatest MEP of its facilities: whatever bounds these bounds V. Assumes nothing.
use Rattle.std.specs.Prelude.{◌≡◌, Bool, ℕ, ◌+◌, ◌*◌, ◌/◌, ◌≤◌, ◌<◌, eqb, ℤ, pos, nat_abs, ◌*ℤ◌, ◌≤ℤ◌}
use Rattle.std.proofs.Math.Path.{refl}
use Rattle.std.proofs.Math.Logic.{⊎_elim}
use Rattle.std.proofs.Math.Bool.{true, false, cond}
use Rattle.std.proofs.Math.Nat.{div-zero}
use Rattle.std.proofs.Common.{arith}
use Rattle.std.proofs.lemmas.Bool.{eqb-false}
use Rattle.integer.specs.Integer.{minus}
use Rattle.integer.proofs.laws.IntegerLaws.{int, parts, mul_mono}
use Rattle.integer.specs.Below.{fold, sum_ℤ}
use Rattle.integer.proofs.laws.BelowLaws.{sum_ℕ-cong, sum_ℤ-cong, sum_ℤ-mono, sum_ℤ-scale, sum_ℤ-const, lt_or_le}
use Rattle.integer.proofs.laws.NearestLaws.{nearest-abs, nearest-ge, nearest-le}
use Rattle.rulebook.specs.Units.{nearest, most_price}
use Rattle.rulebook.specs.ReferencePrice.{weight, total_weight, weighted_sum, average, reference_price}

none_size : (mep ieq : ℕ → ℤ) → nat_abs (reference_price 0 mep ieq) ≤ most_price
unfolding reference_price average fold
none_size mep ieq = rw nearest-abs (let e : (2 * 0 + 0) / (2 * 0) ≡ 0 = div-zero (2 * 0 + 0) in rw e (omega arith))

module _ (n : ℕ) (mep ieq : ℕ → ℤ) where
  -- every MEP is from low to high
  module _ (low high : ℤ) (h : (f : ℕ) → f < n → (low ≤ℤ mep f) × (mep f ≤ℤ high)) where
    sum_ge : (pos n *ℤ low) ≤ℤ sum_ℤ n mep
    sum_ge = rw (sum_ℤ-const n low) (sum_ℤ-mono n (λ f. low) mep (λ f l. (h f l).0))

    sum_le : sum_ℤ n mep ≤ℤ (pos n *ℤ high)
    sum_le = rw (sum_ℤ-const n high) (sum_ℤ-mono n mep (λ f. high) (λ f l. (h f l).1))

    weighted-ge : (pos (total_weight n ieq) *ℤ low) ≤ℤ weighted_sum n mep ieq
    weighted-ge =
        rw (sum_ℤ-scale n low (λ f. weight (ieq f)))
        (sum_ℤ-mono n (λ f. low *ℤ pos (weight (ieq f))) (λ f. mep f *ℤ pos (weight (ieq f))) (λ f l. mul_mono low (mep f) (weight (ieq f)) (h f l).0))

    weighted-le : weighted_sum n mep ieq ≤ℤ (pos (total_weight n ieq) *ℤ high)
    weighted-le =
        rw (sum_ℤ-scale n high (λ f. weight (ieq f)))
        (sum_ℤ-mono n (λ f. mep f *ℤ pos (weight (ieq f))) (λ f. high *ℤ pos (weight (ieq f))) (λ f l. mul_mono (mep f) high (weight (ieq f)) (h f l).1))

    -- so is V
    pub price-between : 0 < n → (low ≤ℤ reference_price n mep ieq) × (reference_price n mep ieq ≤ℤ high)
    unfolding reference_price average
    price-between some = go (eqb (total_weight n ieq) 0) (eqb-false (total_weight n ieq) 0)
      where
        go : (b : Bool) → (b ≡ false → total_weight n ieq ≡ 0 → ⊥)
            → (low ≤ℤ cond b (nearest (sum_ℤ n mep) n) (nearest (weighted_sum n mep ieq) (total_weight n ieq)))
            × (cond b (nearest (sum_ℤ n mep) n) (nearest (weighted_sum n mep ieq) (total_weight n ieq)) ≤ℤ high)
        go true e = (nearest-ge (sum_ℤ n mep) n low some sum_ge, nearest-le (sum_ℤ n mep) n high some sum_le)
        go false e =
            let k : 0 < total_weight n ieq = ⊎_elim (λ p. p) (λ p. absurd (e refl (omega arith))) (lt_or_le 0 (total_weight n ieq)) in
            (nearest-ge (weighted_sum n mep ieq) (total_weight n ieq) low k weighted-ge, nearest-le (weighted_sum n mep ieq) (total_weight n ieq) high k weighted-le)

  -- V of prices is a price: within ±1,000,000
  pub price-within : 0 < n → ((f : ℕ) → f < n → nat_abs (mep f) ≤ most_price) → nat_abs (reference_price n mep ieq) ≤ most_price
  price-within some h =
      let b = price-between (minus most_price) (pos most_price) (λ f l. let p = parts (mep f) in let q = h f l in (omega int, omega int)) some in
      omega (int, b.0, b.1, parts (reference_price n mep ieq))

  -- and so is the zero that no facility gives
  pub price-size : ((f : ℕ) → f < n → nat_abs (mep f) ≤ most_price) → nat_abs (reference_price n mep ieq) ≤ most_price
  price-size h = ⊎_elim (λ l. price-within l h) (λ l. let e : n ≡ 0 = omega arith in rw e (none_size mep ieq)) (lt_or_le 0 n)

-- V of as many facilities with the same MEP and IEQ is the same
pub price-cong : (n : ℕ) (mep mep' ieq ieq' : ℕ → ℤ) → ((f : ℕ) → f < n → mep f ≡ mep' f) → ((f : ℕ) → f < n → ieq f ≡ ieq' f)
    → reference_price n mep ieq ≡ reference_price n mep' ieq'
unfolding reference_price
price-cong n mep mep' ieq ieq' p q =
    let a = sum_ℤ-cong n mep mep' p in
    let b = sum_ℕ-cong n (λ f. weight (ieq f)) (λ f. weight (ieq' f)) (λ f h. rw (q f h)) in
    let c = sum_ℤ-cong n (λ f. mep f *ℤ pos (weight (ieq f))) (λ f. mep' f *ℤ pos (weight (ieq' f))) (λ f h. rw (p f h, q f h)) in
    rw (a, b, c)
