-- The digests that stand for what was lent: each number in turn, by a prime. Assumes nothing.
use Rattle.std.specs.Prelude.{List, ℕ, ◌+◌, ◌*◌, ◌/◌, ◌%◌, ℤ, pos, negsuc, nat_abs, length, get_or}
use Rattle.integer.specs.Below.{turns}
use Rattle.integer.specs.Words.{word}

-- a digest with one number more; it is below the prime 2^31 − 1
unfoldable pub more : ℕ → ℕ → ℕ
more d x = (d * 1000003 + x) % 2147483647

-- 1 for a negative word
abbrev pub sign : ℤ → ℕ
sign (pos n) = 0
sign (negsuc n) = 1

-- with one word more: the upper half of its magnitude with its sign, then the lower half
unfoldable pub more_word : ℕ → ℤ → ℕ
more_word d z = more (more d (2 * (nat_abs z / 4294967296) + sign z)) (nat_abs z % 4294967296)

unfoldable pub digest : List ℤ → ℕ
digest xs = turns (length xs) (λ i d. more_word d (word xs i)) 1

unfoldable pub file_digest : List ℕ → ℕ
file_digest s = turns (length s) (λ i d. more d (get_or s i 0)) 1
