-- Document 02, P4: a statement in signed packed decimal. Its fields, how they are written and read back, and what the two calls return. Assumes nothing.
use Rattle.std.specs.Prelude.{Bool, cond, not, ◌&&◌, ◌||◌, ℕ, ◌+◌, ◌*◌, ◌-◌, ◌/◌, ◌%◌, ◌^◌, leb, ltb, eqb, ℤ, pos, negsuc, nat_abs, length, get_or, drop, Option, Some, None, Result, Ok, Err}
use mathlib.Core.List.{List, ◌++◌, flat_map}
use Rattle.integer.specs.Integer.{minus}
use Rattle.integer.specs.Below.{all, first, or_else, turns, tabulate}
use Rattle.integer.specs.Words.{word, filled}
use Rattle.rulebook.specs.Numbers.{accepted, outside_range, output_too_short, packed_field_wrong, checked}
use Rattle.packed.specs.declared.PackError.{PackError}
use Rattle.packed.specs.declared.UnpackError.{UnpackError}
use Rattle.packed.specs.declared.UnpackReturned.{UnpackReturned}

-- ---- A statement: 2 to 33 amounts of at most 15 digits

-- N + 1 amounts for 1 to 32 accounts: theirs, and the MSSL's
abbrev pub least_amounts : ℕ
least_amounts = 2

abbrev pub most_amounts : ℕ
most_amounts = 33

abbrev pub count_fits : ℕ → Bool
count_fits n = leb least_amounts n && leb n most_amounts

-- the greatest number of 15 digits
abbrev pub most_amount : ℕ
most_amount = 999999999999999

abbrev pub amount_fits : ℤ → Bool
amount_fits z = leb (nat_abs z) most_amount

unfoldable pub statement_fits : List ℤ → Bool
statement_fits amounts = count_fits (length amounts) && all (length amounts) (λ i. amount_fits (word amounts i))

-- ---- A field: 15 digits, most significant first, two a byte, then a last half byte for the sign

abbrev pub field_bytes : ℕ
field_bytes = 8

abbrev pub field_digits : ℕ
field_digits = 15

-- hex C for zero and above, hex D below zero
abbrev pub plus_sign : ℕ
plus_sign = 12

abbrev pub minus_sign : ℕ
minus_sign = 13

abbrev pub sign_of : ℤ → ℕ
sign_of (pos n) = plus_sign
sign_of (negsuc n) = minus_sign

-- digit k of m, digit 0 the most significant
unfoldable pub digit_of : ℕ → ℕ → ℕ
digit_of m k = m / 10 ^ (field_digits - 1 - k) % 10

-- half byte k of the field of z
unfoldable pub half_byte : ℤ → ℕ → ℕ
half_byte z k = cond (ltb k field_digits) (digit_of (nat_abs z) k) (sign_of z)

unfoldable pub field_byte : ℤ → ℕ → ℕ
field_byte z j = 16 * half_byte z (2 * j) + half_byte z (2 * j + 1)

unfoldable pub field : ℤ → List ℕ
field z = tabulate field_bytes (field_byte z)

-- a statement's, one after another
abbrev pub fields_of : List ℤ → List ℕ
fields_of amounts = flat_map field amounts

-- ---- The field whose first byte is at `at`, read

-- half byte k: the upper half of a byte comes first
unfoldable pub half_at : List ℕ → ℕ → ℕ → ℕ
half_at s at k = cond (eqb (k % 2) 0) (get_or s (at + k / 2) 0 / 16) (get_or s (at + k / 2) 0 % 16)

abbrev pub sign_at : List ℕ → ℕ → ℕ
sign_at s at = half_at s at field_digits

-- the number that the digits spell
unfoldable pub magnitude_at : List ℕ → ℕ → ℕ
magnitude_at s at = turns field_digits (λ k m. 10 * m + half_at s at k) 0

unfoldable pub amount_at : List ℕ → ℕ → ℤ
amount_at s at = cond (eqb (sign_at s at) minus_sign) (minus (magnitude_at s at)) (pos (magnitude_at s at))

-- ---- What is wrong in fields, and where: the byte

abbrev pub whole_fields : List ℕ → ℕ
whole_fields s = length s / field_bytes

abbrev pub last_byte_of : ℕ → ℕ
last_byte_of at = at + (field_bytes - 1)

-- one place, found unless a test passes
abbrev pub unless : Bool → ℕ → Option ℕ
unless t i = cond t None (Some i)

-- a digit above 9
unfoldable pub wrong_digit : List ℕ → ℕ → ℕ → Option ℕ
wrong_digit s at k = unless (leb (half_at s at k) 9) (at + k / 2)

-- a sign other than hex C and D
unfoldable pub wrong_sign : List ℕ → ℕ → Option ℕ
wrong_sign s at = unless (eqb (sign_at s at) plus_sign || eqb (sign_at s at) minus_sign) (last_byte_of at)

-- zero with D
unfoldable pub negative_zero : List ℕ → ℕ → Option ℕ
negative_zero s at = unless (not (eqb (sign_at s at) minus_sign && eqb (magnitude_at s at) 0)) (last_byte_of at)

-- in one field: digits, sign, negative zero
unfoldable pub wrong_in : List ℕ → ℕ → Option ℕ
wrong_in s at = or_else (first field_digits (wrong_digit s at)) (or_else (wrong_sign s at) (negative_zero s at))

-- bytes after the whole fields: a last field that is cut, at its first byte
unfoldable pub cut_field : List ℕ → Option ℕ
cut_field s = unless (eqb (length s % field_bytes) 0) (field_bytes * whole_fields s)

-- field by field, then the cut one
unfoldable pub first_wrong : List ℕ → Option ℕ
first_wrong s = or_else (first (whole_fields s) (λ f. wrong_in s (field_bytes * f))) (cut_field s)

-- ---- What the calls return; the checks stand in the order in which they are tried: 1, 10, 16

-- writing: the number, and the output's bytes after
pub record Packed : Type 0 where
  pub number : ℕ
  pub output : List ℕ

abbrev pub pack_error_number : PackError → ℕ
pack_error_number PackError.OutsideRange = outside_range
pack_error_number PackError.OutputTooShort = output_too_short

abbrev pub pack_number : Result (Unit {0}) PackError → ℕ
pack_number (Ok _) = accepted
pack_number (Err e) = pack_error_number e

unfoldable pub pack_call : List ℤ → List ℕ → Packed
pack_call amounts output =
    checked (statement_fits amounts) (record { number = outside_range; output = output })
    (checked (leb (field_bytes * length amounts) (length output)) (record { number = output_too_short; output = output })
    (record { number = accepted; output = fields_of amounts ++ drop (field_bytes * length amounts) output }))

-- reading: number, position and count of amounts; refused, every other figure is 0
abbrev pub unpack_accepted : ℕ → UnpackReturned
unpack_accepted n = record { number = accepted; position = 0; count = n }

abbrev pub unpack_refused : ℕ → ℕ → UnpackReturned
unpack_refused n p = record { number = n; position = p; count = 0 }

abbrev pub unpack_returned : Result ℕ UnpackError → UnpackReturned
unpack_returned (Ok n) = unpack_accepted n
unpack_returned (Err UnpackError.OutsideRange) = unpack_refused outside_range 0
unpack_returned (Err UnpackError.OutputTooShort) = unpack_refused output_too_short 0
unpack_returned (Err (UnpackError.WrongAt p)) = unpack_refused packed_field_wrong p

-- and the output's words after
pub record Unpacked : Type 0 where
  pub returned : UnpackReturned
  pub output : List ℤ

abbrev pub judged_fields : List ℕ → List ℤ → Option ℕ → Unpacked
judged_fields s output (Some p) = record { returned = unpack_refused packed_field_wrong p; output = output }
judged_fields s output None =
    record { returned = unpack_accepted (whole_fields s); output = filled (whole_fields s) (λ f. amount_at s (field_bytes * f)) output }

unfoldable pub unpack_call : List ℕ → List ℤ → Unpacked
unpack_call s output =
    checked (count_fits (whole_fields s)) (record { returned = unpack_refused outside_range 0; output = output })
    (checked (leb (whole_fields s) (length output)) (record { returned = unpack_refused output_too_short 0; output = output })
    (judged_fields s output (first_wrong s)))
