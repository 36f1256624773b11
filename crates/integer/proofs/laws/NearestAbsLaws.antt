-- How large a nearest number is. Assumes nothing.
use Rattle.std.specs.Prelude.{◌≡◌, ℕ, ◌+◌, ◌*◌, ◌/◌, ℤ, nat_abs}
use Rattle.integer.proofs.laws.IntegerLaws.{with_sign-abs}
use Rattle.integer.specs.Nearest.{nearest}

pub nearest-abs : (z : ℤ) (d : ℕ) → nat_abs (nearest z d) ≡ (2 * nat_abs z + d) / (2 * d)
unfolding nearest
nearest-abs z d = with_sign-abs z ((2 * nat_abs z + d) / (2 * d))
