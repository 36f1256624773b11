-- Digits of a number, most significant first: what they spell is the number, and each is read off what they spell. Assumes nothing.
use Rattle.std.specs.Prelude.{◌≡◌}
use Rattle.std.proofs.Math.Path.{sym, ap}
use Rattle.std.proofs.Common.{◌∙◌}
use Prim.Native.Nat.{ℕ, zero, suc, ◌+◌, ◌*◌, ◌-◌, ◌/◌, ◌%◌, ◌^◌, ◌≤◌, ◌<◌}
use Rattle.std.proofs.Math.Nat.{div-div-eq-div-mul, div-one, pow-succ'}
use native.Mathlib.Omega.{arith}
use Rattle.integer.specs.Below.{turns}
use Rattle.packed.specs.Packed.{field_digits, most_amount, digit_of}

-- a digit is at most 9
pub digit-le : (m k : ℕ) → digit_of m k ≤ 9
unfolding digit_of
digit-le m k = omega arith

-- ---- What digits spell

-- h 0, h 1, .. as digits
abbrev pub spelled : (ℕ → ℕ) → ℕ → ℕ
spelled h n = turns n (λ k m. 10 * m + h k) 0

-- a quotient by one more ten
tens : (m e : ℕ) → m / 10 ^ suc e ≡ m / 10 ^ e / 10
tens m e = let p : 10 ^ suc e ≡ 10 ^ e * 10 = omega (arith, pow-succ' 10 e) in ap (λ x. m / x) p ∙ sym (div-div-eq-div-mul m (10 ^ e) 10)

-- the first n digits of m spell m without the others
digits-spell_first : (m n : ℕ) → m ≤ most_amount → n ≤ field_digits → spelled (digit_of m) n ≡ m / 10 ^ (field_digits - n)
unfolding turns digit_of
digits-spell_first m zero h l = omega arith
digits-spell_first m (suc n) h l =
    let e : field_digits - n ≡ suc (field_digits - 1 - n) = omega arith in
    let f : field_digits - suc n ≡ field_digits - 1 - n = omega arith in
    let r : spelled (digit_of m) n ≡ m / 10 ^ (field_digits - 1 - n) / 10 = digits-spell_first m n h (omega arith) ∙ ap (λ x. m / 10 ^ x) e ∙ tens m (field_digits - 1 - n) in
    rw (f) (omega (arith, r))

-- all of them spell m
pub digits-spell : (m : ℕ) → m ≤ most_amount → spelled (digit_of m) field_digits ≡ m
digits-spell m h = digits-spell_first m field_digits h (omega arith) ∙ div-one m

-- ---- Digits of what is spelled

module _ (h : ℕ → ℕ) (n : ℕ) (small : (k : ℕ) → k < n → h k ≤ 9) where
  -- the last e digits cut off
  spelled-cut : (i e : ℕ) → i + e ≤ n → spelled h (i + e) / 10 ^ e ≡ spelled h i
  unfolding turns
  spelled-cut i zero l = let e : i + zero ≡ i = omega arith in ap (λ x. spelled h x / 1) e ∙ div-one (spelled h i)
  spelled-cut i (suc e) l =
      let s = small (i + e) (omega arith) in
      let x : ℕ = spelled h (i + e) in
      let q : (10 * x + h (i + e)) / 10 ≡ x = omega arith in
      let a : i + suc e ≡ suc (i + e) = omega arith in
      ap (λ y. spelled h y / 10 ^ suc e) a
      ∙ ap (λ y. (10 * x + h (i + e)) / y) (pow-succ' 10 e)
      ∙ sym (div-div-eq-div-mul (10 * x + h (i + e)) 10 (10 ^ e))
      ∙ ap (λ y. y / 10 ^ e) q
      ∙ spelled-cut i e (omega arith)

  pub spelled-lt : (i : ℕ) → i ≤ n → spelled h i < 10 ^ i
  unfolding turns
  spelled-lt zero l = omega arith
  spelled-lt (suc i) l = omega (arith, spelled-lt i (omega arith), small i (omega arith), pow-succ' 10 i)

-- digit k of what 15 digits spell
pub spelled-digit : (h : ℕ → ℕ) → ((k : ℕ) → k < field_digits → h k ≤ 9) → (k : ℕ) → k < field_digits → digit_of (spelled h field_digits) k ≡ h k
unfolding digit_of turns
spelled-digit h small k l =
    let e : suc k + (field_digits - 1 - k) ≡ field_digits = omega arith in
    let c : spelled h field_digits / 10 ^ (field_digits - 1 - k) ≡ spelled h (suc k) =
    ap (λ x. spelled h x / 10 ^ (field_digits - 1 - k)) (sym e) ∙ spelled-cut h field_digits small (suc k) (field_digits - 1 - k) (omega arith) in
    let s = small k l in
    ap (λ x. x % 10) c ∙ omega arith

pub spelled-most : (h : ℕ → ℕ) → ((k : ℕ) → k < field_digits → h k ≤ 9) → spelled h field_digits ≤ most_amount
spelled-most h small = omega (arith, spelled-lt h field_digits small field_digits (omega arith))
