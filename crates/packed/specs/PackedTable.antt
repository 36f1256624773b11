-- Document 02, P4, in its own figures: what writing and reading return of any input, each number exactly, and what is written and read back. Assumes nothing.
use Rattle.std.specs.Prelude.{◌≡◌, cond, not, ◌&&◌, ◌||◌, ◌↔◌, ℕ, ◌+◌, ◌*◌, ◌-◌, ◌/◌, ◌%◌, ◌^◌, ◌≤◌, ◌<◌, ltb, eqb, ℤ, pos, nat_abs, length, get_or, take, drop, None}
use mathlib.Core.List.{List, [], ◌∷◌, ◌++◌, flat_map}
use Rattle.std.specs.Int.Signed.{lt_z}
use Rattle.integer.specs.Below.{all, tabulate}
use Rattle.integer.specs.Words.{word}
use Rattle.rulebook.specs.Checks.{Check, NoneStrikes, FirstStrikes}
use Rattle.packed.specs.Packed.{field, fields_of, half_at, amount_at, wrong_in, pack_call, unpack_accepted, unpack_refused, unpack_call}

-- ---- Writing

-- 2 to 33 amounts, none of more than 15 digits
pub record Statement (amounts : List ℤ) : Type 0 where
  pub from : 2 ≤ length amounts
  pub to : length amounts ≤ 33
  pub digits : (i : ℕ) → i < length amounts → nat_abs (word amounts i) ≤ 999999999999999

pub record PackTable (amounts : List ℤ) (output : List ℕ) : Type 0 where
  -- 1 exactly if it is no such statement; nothing is written
  pub outside : (pack_call amounts output ≡ record { number = 1; output = output }) ↔ (¬ Statement amounts)
  -- else 10 exactly if the output is too short
  pub short : (pack_call amounts output ≡ record { number = 10; output = output }) ↔ (Statement amounts × (length output < 8 * length amounts))
  -- else the fields are written, and what is beyond is kept
  pub written : (pack_call amounts output ≡ record { number = 0; output = fields_of amounts ++ drop (8 * length amounts) output }) ↔ (Statement amounts × (8 * length amounts ≤ length output))

-- byte by byte: the i-th field has the 15 digits of the i-th amount, most significant first, two a byte, the last with hex C for zero and above, hex D below zero
pub record WrittenBytes (amounts : List ℤ) : Type 0 where
  pub pair : (i j : ℕ) → i < length amounts → j < 7
      → get_or (fields_of amounts) (8 * i + j) 0 ≡ 16 * (nat_abs (word amounts i) / 10 ^ (14 - 2 * j) % 10) + nat_abs (word amounts i) / 10 ^ (13 - 2 * j) % 10
  pub last : (i : ℕ) → i < length amounts → get_or (fields_of amounts) (8 * i + 7) 0 ≡ 16 * (nat_abs (word amounts i) % 10) + cond (lt_z (word amounts i) (pos 0)) 13 12

-- ---- Reading: the checks in order

module _ (s : List ℕ) where
  -- of field f, its first byte being at 8 f: a half byte that is no digit, at its byte
  abbrev pub digit_check : ℕ → ℕ → Check
  digit_check f k = record { number = 16; position = 8 * f + k / 2; holds = ltb 9 (half_at s (8 * f) k) }

  -- the last half byte, neither C nor D
  abbrev pub sign_check : ℕ → Check
  sign_check f = record { number = 16; position = 8 * f + 7; holds = not (eqb (half_at s (8 * f) 15) 12) && not (eqb (half_at s (8 * f) 15) 13) }

  -- D, and every digit 0
  abbrev pub zero_check : ℕ → Check
  zero_check f = record { number = 16; position = 8 * f + 7; holds = eqb (half_at s (8 * f) 15) 13 && all 15 (λ k. eqb (half_at s (8 * f) k) 0) }

  abbrev pub field_checks : ℕ → List Check
  field_checks f = tabulate 15 (digit_check f) ++ (sign_check f ∷ zero_check f ∷ [])

  -- bytes that are no whole field
  abbrev pub cut_check : Check
  cut_check = record { number = 16; position = 8 * (length s / 8); holds = ltb 0 (length s % 8) }

  -- whole fields fewer than 2 or more than 33; output too short; field by field; the cut one
  abbrev pub unpack_checks : List ℤ → List Check
  unpack_checks output =
      record { number = 1; position = 0; holds = ltb (length s / 8) 2 || ltb 33 (length s / 8) }
      ∷ record { number = 10; position = 0; holds = ltb (length output) (length s / 8) }
      ∷ (flat_map field_checks (tabulate (length s / 8) (λ f. f)) ++ (cut_check ∷ []))

pub record UnpackTable (s : List ℕ) (output : List ℤ) : Type 0 where
  -- refused with number n at position p exactly if n's check is the first that strikes, at p
  pub refused : (n p : ℕ) → 0 < n → ((unpack_call s output).returned ≡ unpack_refused n p) ↔ FirstStrikes (unpack_checks s output) n p
  -- accepted exactly if none strikes, and then each whole field is counted
  pub read : ((unpack_call s output).returned ≡ unpack_accepted (length s / 8)) ↔ NoneStrikes (unpack_checks s output)
  -- the f-th word is then the amount of the f-th field, and the words beyond are kept
  pub placed : (unpack_call s output).returned.number ≡ 0 → (f : ℕ) → f < length s / 8 → word (unpack_call s output).output f ≡ amount_at s (8 * f)
  pub beyond : (unpack_call s output).returned.number ≡ 0 → drop (length s / 8) (unpack_call s output).output ≡ drop (length s / 8) output
  -- refused, it leaves the output as it was
  pub kept : (n p : ℕ) → 0 < n → (unpack_call s output).returned ≡ unpack_refused n p → (unpack_call s output).output ≡ output

-- accepted exactly if it is the fields of a statement for which there is room
abbrev pub ReadExactly : List ℕ → List ℤ → Type 0
ReadExactly s output =
    ((unpack_call s output).returned.number ≡ 0) ↔ ((amounts : List ℤ) × Statement amounts × (length amounts ≤ length output) × (fields_of amounts ≡ s))

-- ---- There and back

-- a statement written and then read is the same amounts
abbrev pub WrittenRead : List ℤ → List ℕ → List ℤ → Type 0
WrittenRead amounts bytes output = (pack_call amounts bytes).number ≡ 0 → length amounts ≤ length output
    → unpack_call (take (8 * length amounts) (pack_call amounts bytes).output) output
    ≡ record { returned = unpack_accepted (length amounts); output = amounts ++ drop (length amounts) output }

-- accepted fields read and then written are the same bytes
abbrev pub ReadWritten : List ℕ → List ℤ → List ℕ → Type 0
ReadWritten s output bytes = (unpack_call s output).returned.number ≡ 0 → length s ≤ length bytes
    → pack_call (take (unpack_call s output).returned.count (unpack_call s output).output) bytes ≡ record { number = 0; output = s ++ drop (length s) bytes }

-- one field stands for each amount, and one amount for each field
pub record OneField : Type 0 where
  pub of_amount : (s : List ℕ) (z : ℤ) → length s ≡ 8 → wrong_in s 0 ≡ None → amount_at s 0 ≡ z → s ≡ field z
  pub right : (z : ℤ) → nat_abs z ≤ 999999999999999 → (wrong_in (field z) 0 ≡ None) × (amount_at (field z) 0 ≡ z)
  pub of_fields : (amounts others : List ℤ) → Statement amounts → Statement others → fields_of amounts ≡ fields_of others → amounts ≡ others
