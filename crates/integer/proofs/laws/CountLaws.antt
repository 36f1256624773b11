-- Laws of sums from a lower bound, of counts and of tests that pass somewhere. Assumes nothing.
use Rattle.std.specs.Prelude.{◌≡◌, refl, Bool, true, false, cond, ◌||◌, ℕ, zero, suc, ◌+◌, ◌-◌, ◌≤◌, ◌<◌}
use Rattle.std.proofs.Common.{ap, ◌∙◌, ⊎_elim, arith}
use Rattle.std.proofs.Math.Bool.{or-true}
use Rattle.integer.specs.Below.{fold, sum_ℕ, any, count}
use Rattle.integer.proofs.laws.BelowLaws.{either, lt_or_le, fold-suc, fold-unit, fold-each, fold-stop}

-- ---- Sums

pub sum_ℕ-suc : (n : ℕ) (f : ℕ → ℕ) → sum_ℕ (n + 1) f ≡ sum_ℕ n f + f n
sum_ℕ-suc = fold-suc ◌+◌ 0

-- more summands, no less
pub sum_ℕ-mono : (m n : ℕ) (f : ℕ → ℕ) → m ≤ n → sum_ℕ m f ≤ sum_ℕ n f
unfolding fold
sum_ℕ-mono m zero f l = let e : m ≡ 0 = omega arith in rw e (omega arith)
sum_ℕ-mono m (suc n) f l =
    ⊎_elim (λ h. omega (arith, sum_ℕ-mono m n f (omega arith))) (λ (h : suc n ≤ m). let e : m ≡ suc n = omega arith in rw e (omega arith)) (lt_or_le m (suc n))

-- the sum of f over the numbers from low to n
module _ (f : ℕ → ℕ) (low : ℕ) where
  abbrev pub sum_from : ℕ → ℕ
  sum_from n = sum_ℕ (n - low) (λ k. f (low + k))

  pub sum_from-suc : (n : ℕ) → low ≤ n → sum_from (n + 1) ≡ sum_from n + f n
  sum_from-suc n l =
      let g : ℕ → ℕ = λ k. f (low + k) in
      let e : n + 1 - low ≡ n - low + 1 = omega arith in
      let h : low + (n - low) ≡ n = omega arith in
      ap (λ k. sum_ℕ k g) e ∙ sum_ℕ-suc (n - low) g ∙ ap (λ k. sum_ℕ (n - low) g + f k) h

  pub sum_from-mono : (m n : ℕ) → m ≤ n → sum_from m ≤ sum_from n
  sum_from-mono m n l = sum_ℕ-mono (m - low) (n - low) (λ k. f (low + k)) (omega arith)

  -- a number lies in one summand only
  pub sum_from-place : (x m n : ℕ) → low ≤ m → low ≤ n → sum_from m ≤ x → x < sum_from m + f m → sum_from n ≤ x → x < sum_from n + f n → m ≡ n
  sum_from-place x m n lm ln p q r s =
      ⊎_elim (λ h. absurd (omega (arith, sum_from-mono (m + 1) n (omega arith), sum_from-suc m lm)))
      (λ h. ⊎_elim (λ k. absurd (omega (arith, sum_from-mono (n + 1) m (omega arith), sum_from-suc n ln))) (λ k. omega arith) (lt_or_le n m))
      (lt_or_le m n)

-- ---- Counts

pub count-suc : (n : ℕ) (p : ℕ → Bool) → count (n + 1) p ≡ count n p + cond (p n) 1 0
count-suc n p = sum_ℕ-suc n (λ i. cond (p i) 1 0)

pub count-mono : (m n : ℕ) (p : ℕ → Bool) → m ≤ n → count m p ≤ count n p
count-mono m n p l = sum_ℕ-mono m n (λ i. cond (p i) 1 0) l

-- ---- Tests

or_right : (a b : Bool) → a ≡ false → (a || b) ≡ true → b ≡ true
or_right true b f e = absurd (let z : ◌≡◌ {A = ℕ} 0 1 = cc in omega arith)
or_right false b f e = e

or_both : (a b : Bool) → (a || b) ≡ false → (a ≡ false) × (b ≡ false)
or_both true b e = absurd (let z : ◌≡◌ {A = ℕ} 0 1 = cc in omega arith)
or_both false b e = (refl, e)

-- the turn at which it passes
pub any_at : (n : ℕ) (p : ℕ → Bool) (i : ℕ) → i < n → p i ≡ true → any n p ≡ true
any_at n p i l t = fold-stop ◌||◌ false true (λ y. refl) n p i l (rw t (or-true (any i p)))

-- what passed nowhere failed at each, and the converse
pub any-each : (n : ℕ) (p : ℕ → Bool) → any n p ≡ false → (i : ℕ) → i < n → p i ≡ false
any-each = fold-each ◌||◌ false or_both

pub any_none : (n : ℕ) (p : ℕ → Bool) → ((i : ℕ) → i < n → p i ≡ false) → any n p ≡ false
any_none = fold-unit ◌||◌ false refl

-- what passed somewhere passed at some turn
pub any_some : (n : ℕ) (p : ℕ → Bool) → any n p ≡ true → (i : ℕ) × (i < n) × (p i ≡ true)
unfolding fold
any_some zero p e = absurd (let z : ◌≡◌ {A = ℕ} 0 1 = cc in omega arith)
any_some (suc n) p e = ⊎_elim (λ t. let r = any_some n p t in (r.0, omega (arith, r.1), r.2)) (λ t. (n, omega arith, or_right (any n p) (p n) t e)) (either (any n p))
