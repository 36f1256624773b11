-- A field byte by byte, as code goes through it: two digits a byte, the last byte a digit and the sign. PairLaws ties it to the half bytes. Assumes nothing.
use Rattle.std.specs.Prelude.{Bool, true, false, ◌&&◌, ◌||◌, List, ℕ, ◌+◌, ◌*◌, ◌-◌, ◌/◌, ◌%◌, ◌^◌, leb, eqb, get_or, Option, Some, None}
use Rattle.integer.specs.Below.{all, first, turns}
use Rattle.packed.specs.Packed.{field_bytes, plus_sign, minus_sign, magnitude_at, unless}

-- bytes of two digits in a field
abbrev pub pairs : ℕ
pairs = field_bytes - 1

-- ---- Written

-- two digits as a byte
abbrev pub pair_of : ℕ → ℕ
pair_of n = 16 * (n / 10) + n % 10

-- byte j of `count` that hold the last digits of n
unfoldable pub pair_at : ℕ → ℕ → ℕ → ℕ
pair_at n count j = pair_of (n / 100 ^ (count - 1 - j) % 100)

-- ---- Read

abbrev pub is_pair : ℕ → Bool
is_pair b = leb (b / 16) 9 && leb (b % 16) 9

abbrev pub is_last : ℕ → Bool
is_last b = leb (b / 16) 9 && (eqb (b % 16) plus_sign || eqb (b % 16) minus_sign)

-- a number with the two digits of a byte behind it
abbrev pub with_pair : ℕ → ℕ → ℕ
with_pair n b = 10 * (10 * n + b / 16) + b % 16

-- of the field at `at`
abbrev pub pairs_right : List ℕ → ℕ → Bool
pairs_right s at = all pairs (λ j. is_pair (get_or s (at + j) 0))

unfoldable pub pairs_value : List ℕ → ℕ → ℕ
pairs_value s at = turns pairs (λ j n. with_pair n (get_or s (at + j) 0)) 0

-- zero with D, told from the last byte first
abbrev pub is_negative_zero : List ℕ → ℕ → Bool
is_negative_zero s at = eqb (get_or s (at + pairs) 0) minus_sign && eqb (magnitude_at s at) 0

abbrev pub is_nothing : Option ℕ → Bool
is_nothing (Some i) = false
is_nothing None = true

abbrev pub found_or : Option ℕ → ℕ → ℕ
found_or (Some i) d = i
found_or None d = d

-- the first byte that is no pair, or else the last
unfoldable pub wrong_byte : List ℕ → ℕ → ℕ
wrong_byte s at = found_or (first pairs (λ j. unless (is_pair (get_or s (at + j) 0)) (at + j))) (at + pairs)
