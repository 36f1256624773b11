-- Sums over n accounts and k closed days, each part bounded: the MSSL's balance, and the rounding differences. Assumes nothing.
use Rattle.std.specs.Prelude.{ℕ, suc, ◌+◌, ◌*◌, ◌≤◌, ℤ, nat_abs, ◌+ℤ◌}
use Rattle.std.proofs.Common.{suc-mul, mul-add, mul-le-mul, mul-le-mul_right, arith}
use Rattle.integer.proofs.laws.IntegerLaws.{abs-add}

-- one day more
module _ (most n k : ℕ) (z d : ℤ) (before : nat_abs z ≤ n * (k * most)) (day : nat_abs d ≤ n * most) where
  pub sum-room : nat_abs z + nat_abs d ≤ n * (suc k * most)
  sum-room = rw (suc-mul k most, mul-add n (k * most) most) (omega (arith, before, day))

  pub sum-grown : nat_abs (z +ℤ d) ≤ n * (suc k * most)
  sum-grown = omega (arith, abs-add z d, sum-room)

-- of the most accounts, on the last day
pub sum-most : (most : ℕ) {n k : ℕ} → n ≤ 32 → k ≤ 27028 → n * (k * most) ≤ 32 * (27028 * most)
sum-most most few days = mul-le-mul few (mul-le-mul_right most days)
