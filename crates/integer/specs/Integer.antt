-- The integers, taken apart: every integer is the difference of two naturals of which one is 0. Assumes nothing.
use Rattle.std.specs.Prelude.{cond, ℕ, suc, ◌-◌, ◌^◌, ltb, ℤ, pos, negsuc, neg_ℤ}
use Rattle.std.proofs.Math.IntN.{sub_ℕ}

-- max(z, 0)
abbrev pub positive : ℤ → ℕ
positive (pos n) = n
positive (negsuc n) = 0

-- max(−z, 0)
abbrev pub negative : ℤ → ℕ
negative (pos n) = 0
negative (negsuc n) = suc n

-- n below 2 ^ bits, read in two's complement: n, or n less 2 ^ bits from half of that on
unfoldable pub twos_complement : ℕ → ℕ → ℤ
twos_complement bits n = cond (ltb n (2 ^ (bits - 1))) (pos n) (sub_ℕ n (2 ^ bits))

-- −n
abbrev pub minus : ℕ → ℤ
minus n = neg_ℤ (pos n)

-- m with the sign of z
unfoldable pub with_sign : ℤ → ℕ → ℤ
with_sign (pos n) m = pos m
with_sign (negsuc n) m = minus m
