-- Laws of numbers as text. Assumes nothing.
use Rattle.std.specs.Prelude.{◌≡◌, refl, false, List, [], ◌∷◌, ◌++◌, ℕ, zero, suc, ◌+◌, ◌/◌, ◌%◌, ◌^◌, ◌≤◌, ◌<◌, ℤ, pos, negsuc, nat_abs, length}
use Rattle.std.specs.Fmt.{digits, digits_onto, decimal as Fmt·decimal, signed_decimal as Fmt·signed_decimal}
use Rattle.std.proofs.Common.{sym, ap, ◌∙◌, ⊎_elim, arith, length-append, append-nil, append_assoc, ne_eqb}
use borrow.Author.Tests.{lt-ltb, le-ltb}
use Rattle.integer.proofs.laws.BelowLaws.{lt_or_le}
use Rattle.integer.specs.Integer.{negative}
use Rattle.console.specs.Decimal.{digit, digits_within, decimal, minus_sign, signed_decimal}

-- ---- One digit, and one digit more

module _ (k n : ℕ) where
  within-small : n < 10 → digits_within (suc k) n ≡ digit n ∷ []
  unfolding digits_within
  within-small h = rw lt-ltb

  within-large : 10 ≤ n → digits_within (suc k) n ≡ digits_within k (n / 10) ++ (digit (n % 10) ∷ [])
  unfolding digits_within
  within-large h = rw le-ltb

-- any bound above n will do
within-any : (j k n : ℕ) → n < j → n < k → digits_within j n ≡ digits_within k n
within-any zero k n p q = absurd (omega arith)
within-any (suc j) zero n p q = absurd (omega arith)
within-any (suc j) (suc k) n p q =
    ⊎_elim (λ h. within-small j n h ∙ sym (within-small k n h))
    (λ h. within-large j n h ∙ ap (λ (ds : List ℕ). ds ++ (digit (n % 10) ∷ [])) (within-any j k (n / 10) (omega arith) (omega arith)) ∙ sym (within-large k n h))
    (lt_or_le n 10)

pub decimal-small : (n : ℕ) → n < 10 → decimal n ≡ digit n ∷ []
unfolding decimal
decimal-small n h = within-small n n h

pub decimal-large : (n : ℕ) → 10 ≤ n → decimal n ≡ decimal (n / 10) ++ (digit (n % 10) ∷ [])
unfolding decimal
decimal-large n h =
    within-large n n h ∙ ap (λ (ds : List ℕ). ds ++ (digit (n % 10) ∷ [])) (within-any n (suc (n / 10)) (n / 10) (omega arith) (omega arith))

-- ---- How long they are

pub length-decimal_small : (n : ℕ) → n < 10 → length (decimal n) ≡ 1
length-decimal_small n h = rw decimal-small

pub length-decimal_large : (n : ℕ) → 10 ≤ n → length (decimal n) ≡ length (decimal (n / 10)) + 1
length-decimal_large n h = rw (decimal-large n h, length-append)

-- a number below 10 ^ (k + 1) has at most k + 1 digits
length-decimal : (k n : ℕ) → n < 10 ^ suc k → length (decimal n) ≤ suc k
length-decimal zero n h = let e = length-decimal_small n h in omega arith
length-decimal (suc k) n h =
    ⊎_elim (λ s. let e = length-decimal_small n s in omega arith)
    (λ l. let e = length-decimal_large n l in let m = length-decimal k (n / 10) (omega arith) in omega arith)
    (lt_or_le n 10)

-- 64 bits hold at most 20 digits, and with a sign at most 19
pub length-unsigned : (n : ℕ) → n < 2 ^ 64 → length (decimal n) ≤ 20
length-unsigned n h = length-decimal 19 n (omega arith)

pub length-magnitude : (n : ℕ) → n ≤ 2 ^ 63 → length (decimal n) ≤ 19
length-magnitude n h = length-decimal 18 n (omega arith)

-- ---- Signs

pub signed-negative : (z : ℤ) → 0 < negative z → signed_decimal z ≡ minus_sign ∷ decimal (nat_abs z)
unfolding signed_decimal
signed-negative (pos n) h = absurd (omega arith)
signed-negative (negsuc n) h = refl

pub signed-positive : (z : ℤ) → negative z ≡ 0 → signed_decimal z ≡ decimal (nat_abs z)
unfolding signed_decimal
signed-positive (pos n) h = refl
signed-positive (negsuc n) h = absurd (omega arith)

pub length-signed : (z : ℤ) → nat_abs z ≤ 2 ^ 63 → length (signed_decimal z) ≤ 20
unfolding signed_decimal
length-signed (pos n) h = let m = length-magnitude n h in omega arith
length-signed (negsuc n) h = let m = length-magnitude (suc n) h in omega arith

-- ---- The library's text of a number is this one

module _ (k n : ℕ) (rest : List ℕ) where
  onto-small : n < 10 → digits_onto (suc k) 10 false n rest ≡ decimal n ++ rest
  onto-small h =
      let q : n / 10 ≡ 0 = omega arith in
      let r : n % 10 ≡ n = omega arith in
      rw (q, r, lt-ltb n 10 h, decimal-small n h) refl

  onto-large : 10 ≤ n → digits_onto (suc k) 10 false (n / 10) (digit (n % 10) ∷ rest) ≡ decimal (n / 10) ++ (digit (n % 10) ∷ rest)
      → digits_onto (suc (suc k)) 10 false n rest ≡ decimal n ++ rest
  onto-large h e =
      rw (ne_eqb (n / 10) 0 (omega arith), lt-ltb (n % 10) 10 (omega arith), e, decimal-large n h) (sym (append_assoc (decimal (n / 10)) (digit (n % 10) ∷ []) rest))

onto : (k n : ℕ) (rest : List ℕ) → n < 10 ^ suc k → digits_onto (suc k) 10 false n rest ≡ decimal n ++ rest
onto zero n rest h = onto-small 0 n rest (omega arith)
onto (suc k) n rest h =
    ⊎_elim (onto-small (suc k) n rest) (λ l. onto-large k n rest l (onto k (n / 10) (digit (n % 10) ∷ rest) (omega arith))) (lt_or_le n 10)

pub decimal-is : (n : ℕ) → n < 2 ^ 64 → Fmt·decimal n ≡ decimal n
unfolding digits
decimal-is n h = onto 63 n [] (omega arith) ∙ append-nil (decimal n)

pub signed-is : (z : ℤ) → nat_abs z ≤ 2 ^ 63 → Fmt·signed_decimal z ≡ signed_decimal z
unfolding signed_decimal
signed-is (pos n) h = decimal-is n (omega arith)
signed-is (negsuc n) h = ap (λ (t : List ℕ). 45 ∷ t) (decimal-is (suc n) (omega arith))
