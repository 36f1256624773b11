-- Document 01's "nearest": the function, and the property that its words say. Assumes nothing.
use Rattle.std.specs.Prelude.{◌≡◌, ℕ, ◌+◌, ◌*◌, ◌/◌, ◌≤◌, ℤ, pos, nat_abs, ◌-ℤ◌, ◌*ℤ◌}
use Rattle.integer.specs.Integer.{with_sign}

-- the nearest whole number to z / d, a tie going away from zero
unfoldable pub nearest : ℤ → ℕ → ℤ
nearest z d = with_sign z ((2 * nat_abs z + d) / (2 * d))

-- r is nearest to z / d: d times r is at most half of d away from z, and at just half it is no nearer to zero than z
pub record IsNearest (z : ℤ) (d : ℕ) (r : ℤ) : Type 0 where
  pub within : 2 * nat_abs (pos d *ℤ r -ℤ z) ≤ d
  pub tie : 2 * nat_abs (pos d *ℤ r -ℤ z) ≡ d → nat_abs z ≤ nat_abs (pos d *ℤ r)
