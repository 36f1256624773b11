-- A field by half bytes is the same field by bytes: what is right and wrong in it, and the number that it spells. Assumes nothing.
use Rattle.std.specs.Prelude.{◌≡◌, refl, Bool, true, false, not, ◌&&◌, ◌||◌, List, leb, ℤ, nat_abs, get_or, Option, Some, None}
use Rattle.std.proofs.Common.{sym, ◌∙◌, div-one, zero-add, lt-ltb, eqb-true, length, take, drop, get_or-take, get_or-drop, drop-drop}
use Rattle.std.specs.Simd.{first_chunks}
use Rattle.std.specs.List.{AllWithin, HoldsAt}
use Rattle.std.specs.Option.{MatchOption, unwrap_or}
use lib.Seq.{length-take-le}
use Rattle.std.proofs.Math.Path.{ap}
use Rattle.std.proofs.Math.Bool.{and-false, and_assoc}
use Prim.Native.Nat.{ℕ, zero, suc, ◌+◌, ◌*◌, ◌-◌, ◌/◌, ◌%◌, ◌^◌, ◌<◌}
use Rattle.std.proofs.Math.Nat.{div-div-eq-div-mul, pow-succ'}
use native.Mathlib.Omega.{arith}
use Rattle.std.proofs.Math.Dec.{eqb}
use Rattle.integer.specs.Below.{fold, all, first, or_else, turns}
use Rattle.integer.proofs.laws.BelowLaws.{fold-suc, fold-cong, fold-by_two, fold-test, turns-suc, turns-cong, turns-by_two, or_else-assoc, first_stops, nothing-first}
use Rattle.packed.specs.Packed.{field_bytes, field_digits, plus_sign, minus_sign, sign_of, digit_of, half_byte, field_byte, half_at, magnitude_at, amount_at, unless, wrong_digit, wrong_sign, negative_zero, wrong_in}
use Rattle.packed.specs.Pairs.{pairs, pair_of, pair_at, is_pair, is_last, with_pair, pairs_right, pairs_value, is_negative_zero, is_nothing, found_or, wrong_byte}

-- ---- Found or not

nothing-or : (x y : Option ℕ) → is_nothing (or_else x y) ≡ (is_nothing x && is_nothing y)
unfolding or_else
nothing-or (Some i) y = refl
nothing-or None y = refl

pub nothing-of : (o : Option ℕ) → is_nothing o ≡ true → o ≡ None
nothing-of (Some i) e = absurd (let z : ◌≡◌ {A = ℕ} 0 1 = cc in omega arith)
nothing-of None e = refl

none_found : (n : ℕ) (f : ℕ → Option ℕ) → is_nothing (first n f) ≡ all n (λ k. is_nothing (f k))
none_found n f = fold-test or_else None is_nothing refl nothing-or n f

nothing-unless : (t : Bool) (i : ℕ) → is_nothing (unless t i) ≡ t
nothing-unless true i = refl
nothing-unless false i = refl

unless-both : (a b : Bool) (i : ℕ) → or_else (unless a i) (unless b i) ≡ unless (a && b) i
unfolding or_else
unless-both true b i = refl
unless-both false b i = refl

-- found before, or else there
found-there : (o : Option ℕ) (t : Bool) (i : ℕ) → is_nothing (or_else o (unless t i)) ≡ false → or_else o (unless t i) ≡ Some (found_or o i)
unfolding or_else
found-there (Some k) t i e = refl
found-there None true i e = absurd (let z : ◌≡◌ {A = ℕ} 0 1 = cc in omega arith)
found-there None false i e = refl

-- ---- The field at `at`

module _ (s : List ℕ) (at : ℕ) where
  abbrev pub byte_at : ℕ → ℕ
  byte_at j = get_or s (at + j) 0

  pub half-even : (j : ℕ) → half_at s at (2 * j) ≡ byte_at j / 16
  unfolding half_at
  half-even j =
      let e : 2 * j % 2 ≡ 0 = omega arith in
      let q : 2 * j / 2 ≡ j = omega arith in
      rw (e, q)

  pub half-odd : (j : ℕ) → half_at s at (2 * j + 1) ≡ byte_at j % 16
  unfolding half_at
  half-odd j =
      let e : (2 * j + 1) % 2 ≡ 1 = omega arith in
      let q : (2 * j + 1) / 2 ≡ j = omega arith in
      rw (e, q)

  -- what the digits spell, two at a time
  pub magnitude-split : magnitude_at s at ≡ 10 * pairs_value s at + byte_at pairs / 16
  unfolding magnitude_at pairs_value
  magnitude-split =
      let f : ℕ → ℕ → ℕ = λ k m. 10 * m + half_at s at k in
      turns-suc 14 f 0
      ∙ ap (λ (x : ℕ). 10 * x + half_at s at 14) (turns-by_two 7 f 0 ∙ turns-cong 7 _ _ 0 (λ b y l. rw (half-even b, half-odd b)))
      ∙ ap (λ (x : ℕ). 10 * turns 7 (λ j n. with_pair n (byte_at j)) 0 + x) (half-even 7)

  -- ---- Right

  -- where its digits, its sign and the two together are
  abbrev pub last_right : Bool
  last_right = leb (byte_at pairs / 16) 9 && ((eqb (byte_at pairs % 16) plus_sign || eqb (byte_at pairs % 16) minus_sign) && not (eqb (byte_at pairs % 16) minus_sign && eqb (magnitude_at s at) 0))

  -- two digits of a byte
  pair-wrong : (j : ℕ) → or_else (wrong_digit s at (2 * j)) (wrong_digit s at (2 * j + 1)) ≡ unless (is_pair (byte_at j)) (at + j)
  unfolding wrong_digit
  pair-wrong j =
      let e : 2 * j / 2 ≡ j = omega arith in
      let q : (2 * j + 1) / 2 ≡ j = omega arith in
      rw (half-even j, half-odd j, e, q) (unless-both (leb (byte_at j / 16) 9) (leb (byte_at j % 16) 9) (at + j))

  abbrev pairs_wrong : Option ℕ
  pairs_wrong = first pairs (λ j. unless (is_pair (byte_at j)) (at + j))

  first-digits : first 14 (wrong_digit s at) ≡ pairs_wrong
  first-digits = fold-by_two or_else None or_else-assoc 7 (wrong_digit s at) ∙ fold-cong or_else None 7 _ _ (λ j l. pair-wrong j)

  last-wrong : or_else (wrong_digit s at 14) (or_else (wrong_sign s at) (negative_zero s at)) ≡ unless last_right (at + pairs)
  unfolding wrong_digit wrong_sign negative_zero
  last-wrong =
      rw (half-even 7, half-odd 7)
      (ap (or_else (unless (leb (byte_at 7 / 16) 9) (at + 7))) (unless-both (eqb (byte_at 7 % 16) plus_sign || eqb (byte_at 7 % 16) minus_sign) _ (at + 7))
      ∙ unless-both (leb (byte_at 7 / 16) 9) _ (at + 7))

  -- by bytes
  pub wrong-by_bytes : wrong_in s at ≡ or_else pairs_wrong (unless last_right (at + pairs))
  unfolding wrong_in
  wrong-by_bytes =
      ap (λ o. or_else o (or_else (wrong_sign s at) (negative_zero s at))) (fold-suc or_else None 14 (wrong_digit s at))
      ∙ or_else-assoc (first 14 (wrong_digit s at)) (wrong_digit s at 14) _
      ∙ ap (λ o. or_else o (or_else (wrong_digit s at 14) (or_else (wrong_sign s at) (negative_zero s at)))) first-digits
      ∙ ap (or_else pairs_wrong) last-wrong

  pub right_by_bytes : is_nothing (wrong_in s at) ≡ (pairs_right s at && last_right)
  right_by_bytes =
      ap is_nothing wrong-by_bytes
      ∙ nothing-or pairs_wrong (unless last_right (at + pairs))
      ∙ ap (λ b. b && is_nothing (unless last_right (at + pairs))) (none_found pairs _ ∙ fold-cong ◌&&◌ true pairs _ _ (λ j l. nothing-unless (is_pair (byte_at j)) (at + j)))
      ∙ ap (λ b. pairs_right s at && b) (nothing-unless last_right (at + pairs))

  -- where it is not right
  pub wrong-there : is_nothing (wrong_in s at) ≡ false → wrong_in s at ≡ Some (wrong_byte s at)
  unfolding wrong_byte
  wrong-there e = wrong-by_bytes ∙ found-there pairs_wrong last_right (at + pairs) (sym (ap is_nothing wrong-by_bytes) ∙ e)

  -- a number whose digits are all 0 has the sign alone in its last byte
  same_zero : is_negative_zero s at ≡ (eqb (byte_at pairs % 16) minus_sign && eqb (magnitude_at s at) 0)
  same_zero = by (eqb (magnitude_at s at) 0) refl
    where
      by : (z : Bool) → eqb (magnitude_at s at) 0 ≡ z → (eqb (byte_at pairs) minus_sign && z) ≡ (eqb (byte_at pairs % 16) minus_sign && z)
      by true e =
          let m : byte_at pairs % 16 ≡ byte_at pairs = omega (arith, eqb-true (magnitude_at s at) 0 e, magnitude-split) in
          rw m
      by false e = rw (and-false (eqb (byte_at pairs) minus_sign), and-false (eqb (byte_at pairs % 16) minus_sign))

  -- as code asks it
  pub right_as_asked : ((pairs_right s at && is_last (byte_at pairs)) && not (is_negative_zero s at)) ≡ is_nothing (wrong_in s at)
  right_as_asked =
      rw (same_zero, right_by_bytes)
      (and_assoc (pairs_right s at) (is_last (byte_at pairs)) _
      ∙ ap (λ b. pairs_right s at && b) (and_assoc (leb (byte_at pairs / 16) 9) (eqb (byte_at pairs % 16) plus_sign || eqb (byte_at pairs % 16) minus_sign) _))

-- ---- A field by itself

-- the bytes of two digits
pub length-pairs : (xs : List ℕ) → length xs ≡ field_bytes → length (take pairs xs) ≡ pairs
length-pairs xs e = length-take-le pairs xs (omega arith)

pub pair-read : (xs : List ℕ) (j : ℕ) → j < pairs → get_or (take pairs xs) j 0 ≡ get_or xs (0 + j) 0
pair-read xs j l = get_or-take pairs xs j 0 l ∙ ap (λ i. get_or xs i 0) (sym (zero-add j))

-- ---- A field where it stands is the same field by itself

-- found so many bytes further on
abbrev pub moved : ℕ → Option ℕ → Option ℕ
moved at (Some i) = Some (at + i)
moved at None = None

or_else-moved : (at : ℕ) (x y : Option ℕ) → or_else (moved at x) (moved at y) ≡ moved at (or_else x y)
unfolding or_else
or_else-moved at (Some i) y = refl
or_else-moved at None y = refl

unless-moved : (at : ℕ) (t : Bool) (j : ℕ) → unless t (at + j) ≡ moved at (unless t (0 + j))
unless-moved at true j = refl
unless-moved at false j = rw (zero-add j)

first-moved : (at n : ℕ) (t : ℕ → Bool) → first n (λ j. unless (t j) (at + j)) ≡ moved at (first n (λ j. unless (t j) (0 + j)))
unfolding fold
first-moved at zero t = refl
first-moved at (suc n) t = rw (first-moved at n t, unless-moved at (t n) n) (or_else-moved at (first n (λ j. unless (t j) (0 + j))) (unless (t n) (0 + n)))

found_or-moved : (at : ℕ) (o : Option ℕ) (i : ℕ) → found_or (moved at o) (at + i) ≡ at + found_or o i
found_or-moved at (Some k) i = refl
found_or-moved at None i = refl

module _ (s : List ℕ) (at : ℕ) (xs : List ℕ) (same : (j : ℕ) → j < field_bytes → get_or s (at + j) 0 ≡ get_or xs (0 + j) 0) where
  half-same : (k : ℕ) → k < 16 → half_at s at k ≡ half_at xs 0 k
  unfolding half_at
  half-same k l = rw (same (k / 2) (omega arith))

  magnitude-same : magnitude_at s at ≡ magnitude_at xs 0
  unfolding magnitude_at
  magnitude-same = turns-cong field_digits _ _ 0 (λ k m l. ap (λ (x : ℕ). 10 * m + x) (half-same k (omega arith)))

  pub amount-same : amount_at s at ≡ amount_at xs 0
  unfolding amount_at
  amount-same = rw (half-same field_digits (omega arith), magnitude-same)

  pub right_same : is_nothing (wrong_in s at) ≡ is_nothing (wrong_in xs 0)
  right_same =
      right_by_bytes s at
      ∙ rw (fold-cong ◌&&◌ true pairs (λ j. is_pair (get_or s (at + j) 0)) (λ j. is_pair (get_or xs (0 + j) 0)) (λ j l. ap is_pair (same j (omega arith))), same pairs (omega arith), magnitude-same) refl
      ∙ sym (right_by_bytes xs 0)

  pub wrong_byte-same : wrong_byte s at ≡ at + wrong_byte xs 0
  unfolding wrong_byte
  wrong_byte-same =
      ap (λ o. found_or o (at + pairs)) (fold-cong or_else None pairs _ _ (λ j l. ap (λ b. unless (is_pair b) (at + j)) (same j (omega arith))) ∙ first-moved at pairs (λ j. is_pair (get_or xs (0 + j) 0)))
      ∙ found_or-moved at (first pairs (λ j. unless (is_pair (get_or xs (0 + j) 0)) (0 + j))) pairs

-- the first byte of two digits that is not right, or else the last
pub wrong_byte-found : (xs : List ℕ) (found : Option ℕ) → length xs ≡ field_bytes
    → MatchOption found (AllWithin (λ b. is_pair b ≡ true) (take pairs xs) 0 (length (take pairs xs))) (λ i. (i < length (take pairs xs)) × HoldsAt (λ b. is_pair b ≡ false) (take pairs xs) i × AllWithin (λ b. is_pair b ≡ true) (take pairs xs) 0 i)
    → (unwrap_or found pairs ≡ wrong_byte xs 0) × (unwrap_or found pairs < field_bytes)
unfolding wrong_byte
wrong_byte-found xs found l m = by found m
  where
    n : length (take pairs xs) ≡ pairs
    n = length-pairs xs l

    right : (j : ℕ) → j < pairs → is_pair (get_or (take pairs xs) j 0) ≡ true → unless (is_pair (get_or xs (0 + j) 0)) (0 + j) ≡ None
    right j b e = rw (← pair-read xs j b, e)

    by : (o : Option ℕ) → MatchOption o (AllWithin (λ b. is_pair b ≡ true) (take pairs xs) 0 (length (take pairs xs))) (λ i. (i < length (take pairs xs)) × HoldsAt (λ b. is_pair b ≡ false) (take pairs xs) i × AllWithin (λ b. is_pair b ≡ true) (take pairs xs) 0 i)
        → (unwrap_or o pairs ≡ wrong_byte xs 0) × (unwrap_or o pairs < field_bytes)
    by None a = (sym (ap (λ o. found_or o (0 + pairs)) (nothing-first pairs _ (λ j b. right j b (a j 0 (omega arith) (omega (arith, n)))))), omega arith)
    by (Some i) (b, e, a) =
        let k : i < pairs = omega (arith, n) in
        let stop : unless (is_pair (get_or xs (0 + i) 0)) (0 + i) ≡ Some (0 + i) = rw (← pair-read xs i k, e 0) in
        (sym (ap (λ o. found_or o (0 + pairs)) (first_stops pairs _ i (0 + i) k (nothing-first i _ (λ j b. right j (omega arith) (a j 0 (omega arith) b))) stop) ∙ zero-add i), omega arith)

-- the f-th of a list's fields
chunk_at : (k f : ℕ) (s : List ℕ) (d : List ℕ) → f < k → get_or (first_chunks field_bytes k s) f d ≡ take field_bytes (drop (field_bytes * f) s)
chunk_at zero f s d l = absurd (omega arith)
chunk_at (suc k) zero s d l = refl
chunk_at (suc k) (suc f) s d l =
    let e : field_bytes + field_bytes * f ≡ field_bytes * suc f = omega arith in
    chunk_at k f (drop field_bytes s) d (omega arith) ∙ ap (take field_bytes) (drop-drop (field_bytes * f) field_bytes s ∙ ap (λ i. drop i s) e)

pub chunk-same : (s : List ℕ) (f : ℕ) (d : List ℕ) → f < length s / field_bytes → (j : ℕ) → j < field_bytes
    → get_or s (field_bytes * f + j) 0 ≡ get_or (get_or (first_chunks field_bytes (length s / field_bytes) s) f d) (0 + j) 0
chunk-same s f d l j b =
    rw (chunk_at (length s / field_bytes) f s d l, zero-add j, get_or-take field_bytes (drop (field_bytes * f) s) j 0 b)
    (sym (get_or-drop (field_bytes * f) s j 0))

-- ---- The bytes of a field

hundreds : (e : ℕ) → 10 ^ (2 * e) ≡ 100 ^ e
hundreds zero = refl
hundreds (suc e) =
    let t : 2 * suc e ≡ suc (suc (2 * e)) = omega arith in
    rw (t, pow-succ' 10 (suc (2 * e)), pow-succ' 10 (2 * e), hundreds e, pow-succ' 100 e) (omega arith)

-- the digits of a byte, of m without its last digit
pair-digits : (m e : ℕ) → 16 * (m / 10 ^ suc (suc (2 * e)) % 10) + m / 10 ^ suc (2 * e) % 10 ≡ pair_of (m / 10 / 100 ^ e % 100)
pair-digits m e =
    let n : ℕ = m / 10 / 100 ^ e in
    let b : m / 10 ^ suc (2 * e) ≡ n = ap (λ x. m / x) (pow-succ' 10 (2 * e) ∙ ap (λ x. 10 * x) (hundreds e)) ∙ sym (div-div-eq-div-mul m 10 (100 ^ e)) in
    let p : 10 ^ suc (suc (2 * e)) ≡ 10 ^ suc (2 * e) * 10 = pow-succ' 10 (suc (2 * e)) ∙ omega arith in
    let a : m / 10 ^ suc (suc (2 * e)) ≡ n / 10 = ap (λ x. m / x) p ∙ sym (div-div-eq-div-mul m (10 ^ suc (2 * e)) 10) ∙ ap (λ x. x / 10) b in
    rw (a, b) (omega arith)

pub pair-byte : (z : ℤ) (j : ℕ) → j < pairs → field_byte z j ≡ pair_at (nat_abs z / 10) pairs j
unfolding field_byte half_byte digit_of pair_at
pair-byte z j l =
    let e : ℕ = pairs - 1 - j in
    let x : field_digits - 1 - 2 * j ≡ suc (suc (2 * (pairs - 1 - j))) = omega arith in
    let y : field_digits - 1 - (2 * j + 1) ≡ suc (2 * (pairs - 1 - j)) = omega arith in
    rw (lt-ltb (2 * j) field_digits (omega arith), lt-ltb (2 * j + 1) field_digits (omega arith), x, y) (pair-digits (nat_abs z) (pairs - 1 - j))

pub last_byte : (z : ℤ) → field_byte z pairs ≡ 16 * (nat_abs z % 10) + sign_of z
unfolding field_byte half_byte digit_of
last_byte z = rw (div-one (nat_abs z))
