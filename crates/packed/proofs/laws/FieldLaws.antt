-- A field written and read is its amount, and a right field read and written is its bytes. Assumes nothing.
use Rattle.std.proofs.Math.Path.{◌≡◌, refl, sym, ap}
use Rattle.std.proofs.Common.{◌∙◌, inl, inr}
use Rattle.std.specs.Prelude.{Bool, true, false, not, ◌&&◌, ◌||◌, List, ◌⊎◌, ℕ, zero, suc, ◌+◌, ◌*◌, ◌/◌, ◌%◌, ◌≤◌, ◌<◌, leb, ltb, ℤ, pos, negsuc, nat_abs, get_or, None}
use Rattle.std.proofs.Math.Bool.{cond}
use Rattle.std.proofs.Math.Logic.{⊎_elim}
use native.Mathlib.Omega.{arith}
use borrow.Author.Tests.{lt-ltb, le-leb, lt-leb, eqb-true, ne_eqb, not-true}
use Rattle.std.proofs.Math.Dec.{eqb}
use Rattle.integer.specs.Integer.{minus}
use Rattle.integer.specs.Below.{first, or_else}
use Rattle.integer.proofs.laws.BelowLaws.{either, lt_or_le, turns-cong, first-nothing, nothing-first, or_else-nothing, nothing-or_else}
use Rattle.packed.specs.Packed.{field_bytes, field_digits, most_amount, plus_sign, minus_sign, sign_of, digit_of, half_byte, field_byte, half_at, sign_at, magnitude_at, amount_at, unless, wrong_digit, wrong_sign, negative_zero, wrong_in}
use Rattle.packed.proofs.laws.DigitLaws.{digit-le, digits-spell, spelled-digit, spelled-most}
use Rattle.packed.proofs.laws.PairLaws.{half-even, half-odd}

-- ---- Half bytes of a field

pub half-digit : (z : ℤ) (k : ℕ) → k < field_digits → half_byte z k ≡ digit_of (nat_abs z) k
unfolding half_byte
half-digit z k l = rw (lt-ltb k field_digits l)

pub half-sign : (z : ℤ) → half_byte z field_digits ≡ sign_of z
unfolding half_byte
half-sign z = refl

sign-lt : (z : ℤ) → sign_of z < 16
sign-lt (pos n) = omega arith
sign-lt (negsuc n) = omega arith

half_lt : (z : ℤ) (k : ℕ) → half_byte z k < 16
unfolding half_byte
half_lt z k = by (ltb k field_digits)
  where
    by : (t : Bool) → cond t (digit_of (nat_abs z) k) (sign_of z) < 16
    by true = omega (arith, digit-le (nat_abs z) k)
    by false = sign-lt z

-- ---- Written, then read

-- the field of z stands at `at`
abbrev pub Stands : List ℕ → ℕ → ℤ → Type 0
Stands s at z = (j : ℕ) → j < field_bytes → get_or s (at + j) 0 ≡ field_byte z j

even-or_odd : (k : ℕ) → (k ≡ 2 * (k / 2)) ⊎ (k ≡ 2 * (k / 2) + 1)
even-or_odd k = ⊎_elim (λ l. inl (omega arith)) (λ l. inr (omega arith)) (lt_or_le (k % 2) 1)

module _ (s : List ℕ) (at : ℕ) (z : ℤ) (stands : Stands s at z) where
  pub half-read : (k : ℕ) → k < 16 → half_at s at k ≡ half_byte z k
  unfolding field_byte
  half-read k l =
      let b = stands (k / 2) (omega arith) in
      let lo = half_lt z (2 * (k / 2) + 1) in
      ⊎_elim
      (λ e. ap (half_at s at) e ∙ half-even s at (k / 2) ∙ ap (λ x. x / 16) b ∙ omega arith ∙ ap (half_byte z) (sym e))
      (λ e. ap (half_at s at) e ∙ half-odd s at (k / 2) ∙ ap (λ x. x % 16) b ∙ omega arith ∙ ap (half_byte z) (sym e))
      (even-or_odd k)

  digit-read : (k : ℕ) → k < field_digits → half_at s at k ≡ digit_of (nat_abs z) k
  digit-read k l = half-read k (omega arith) ∙ half-digit z k l

  sign_read : sign_at s at ≡ sign_of z
  sign_read = half-read field_digits (omega arith) ∙ half-sign z

  module _ (fits : nat_abs z ≤ most_amount) where
    magnitude-read : magnitude_at s at ≡ nat_abs z
    unfolding magnitude_at
    magnitude-read = turns-cong field_digits _ _ 0 (λ k m l. ap (λ (x : ℕ). 10 * m + x) (digit-read k l)) ∙ digits-spell (nat_abs z) fits

    pub amount-read : amount_at s at ≡ z
    unfolding amount_at
    amount-read = rw (sign_read, magnitude-read) (by z)
      where
        by : (z : ℤ) → cond (eqb (sign_of z) minus_sign) (minus (nat_abs z)) (pos (nat_abs z)) ≡ z
        by (pos n) = refl
        by (negsuc n) = refl

    pub right_read : wrong_in s at ≡ None
    unfolding wrong_in wrong_digit wrong_sign negative_zero
    right_read =
        nothing-or_else (first field_digits (wrong_digit s at)) _ (nothing-first field_digits (wrong_digit s at) digits)
        (nothing-or_else (wrong_sign s at) (negative_zero s at) sign zero_or)
      where
        digits : (k : ℕ) → k < field_digits → wrong_digit s at k ≡ None
        digits k l = rw (digit-read k l, le-leb (digit_of (nat_abs z) k) 9 (digit-le (nat_abs z) k))

        sign : wrong_sign s at ≡ None
        sign = rw sign_read (by z)
          where
            by : (z : ℤ) → unless (eqb (sign_of z) plus_sign || eqb (sign_of z) minus_sign) (at + 7) ≡ None
            by (pos n) = refl
            by (negsuc n) = refl

        zero_or : negative_zero s at ≡ None
        zero_or = rw (sign_read, magnitude-read) (by z)
          where
            by : (z : ℤ) → unless (not (eqb (sign_of z) minus_sign && eqb (nat_abs z) 0)) (at + 7) ≡ None
            by (pos n) = refl
            by (negsuc n) = rw (ne_eqb (suc n) 0 (λ e. omega arith))

-- ---- Read, then written

-- where a test finds nothing
unless-nothing : (t : Bool) (i : ℕ) → unless t i ≡ None → t ≡ true
unless-nothing true i e = refl
unless-nothing false i e = absurd (let z : ◌≡◌ {A = ℕ} 0 1 = cc in omega arith)

either-sign : (h : ℕ) → (eqb h plus_sign || eqb h minus_sign) ≡ true → (h ≡ plus_sign) ⊎ (h ≡ minus_sign)
either-sign h e =
    ⊎_elim (λ t. inl (eqb-true h plus_sign t))
    (λ t. inr (eqb-true h minus_sign (rw t at e)))
    (either (eqb h plus_sign))

-- the amount of a sign and a magnitude
abbrev signed : ℕ → ℕ → ℤ
signed h m = cond (eqb h minus_sign) (minus m) (pos m)

signed-abs : (h m : ℕ) → nat_abs (signed h m) ≡ m
signed-abs h m = by (eqb h minus_sign) m
  where
    by : (t : Bool) (m : ℕ) → nat_abs (cond t (minus m) (pos m)) ≡ m
    by true zero = refl
    by true (suc m) = refl
    by false m = refl

signed-sign : (h m : ℕ) → (h ≡ plus_sign) ⊎ (h ≡ minus_sign) → (eqb h minus_sign && eqb m 0) ≡ false → sign_of (signed h m) ≡ h
signed-sign h m (inl e) f = rw e refl
signed-sign h zero (inr e) f = absurd (let q : ◌≡◌ {A = Bool} true false = rw e at f in let z : ◌≡◌ {A = ℕ} 0 1 = cc in omega arith)
signed-sign h (suc m) (inr e) f = rw e refl

module _ (s : List ℕ) (at : ℕ) (right : wrong_in s at ≡ None) where
  split : (first field_digits (wrong_digit s at) ≡ None) × (or_else (wrong_sign s at) (negative_zero s at) ≡ None)
  unfolding wrong_in
  split = or_else-nothing _ _ right

  pub digit-right : (k : ℕ) → k < field_digits → half_at s at k ≤ 9
  unfolding wrong_digit
  digit-right k l =
      let t = unless-nothing (leb (half_at s at k) 9) (at + k / 2) (first-nothing field_digits (wrong_digit s at) split.0 k l) in
      ⊎_elim (λ h. absurd (let f = lt-leb (half_at s at k) 9 h in let z : ◌≡◌ {A = ℕ} 0 1 = cc in omega arith)) (λ h. h) (lt_or_le 9 (half_at s at k))

  pub sign-right : (sign_at s at ≡ plus_sign) ⊎ (sign_at s at ≡ minus_sign)
  unfolding wrong_sign
  sign-right = either-sign (sign_at s at) (unless-nothing _ (at + 7) (or_else-nothing (wrong_sign s at) (negative_zero s at) split.1).0)

  pub zero_right : (eqb (sign_at s at) minus_sign && eqb (magnitude_at s at) 0) ≡ false
  unfolding negative_zero
  zero_right = not-true _ (unless-nothing (not (eqb (sign_at s at) minus_sign && eqb (magnitude_at s at) 0)) (at + 7) (or_else-nothing (wrong_sign s at) (negative_zero s at) split.1).1)

  abs_is : nat_abs (amount_at s at) ≡ magnitude_at s at
  unfolding amount_at
  abs_is = signed-abs (sign_at s at) (magnitude_at s at)

  sign-is : sign_of (amount_at s at) ≡ sign_at s at
  unfolding amount_at
  sign-is = signed-sign (sign_at s at) (magnitude_at s at) sign-right zero_right

  -- an amount that fits
  pub amount-fits : nat_abs (amount_at s at) ≤ most_amount
  unfolding magnitude_at
  amount-fits = rw abs_is (spelled-most (half_at s at) digit-right)

  half-written : (k : ℕ) → k < 16 → half_byte (amount_at s at) k ≡ half_at s at k
  unfolding magnitude_at
  half-written k l =
      ⊎_elim (λ h. half-digit (amount_at s at) k h ∙ ap (λ m. digit_of m k) abs_is ∙ spelled-digit (half_at s at) digit-right k h)
      (λ h. let e : k ≡ field_digits = omega arith in rw e (half-sign (amount_at s at) ∙ sign-is))
      (lt_or_le k field_digits)

  -- whose field it is
  pub stands-right : Stands s at (amount_at s at)
  unfolding field_byte
  stands-right j l =
      let a = half-written (2 * j) (omega arith) ∙ half-even s at j in
      let b = half-written (2 * j + 1) (omega arith) ∙ half-odd s at j in
      sym (rw (a, b) (omega arith))
