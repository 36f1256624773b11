-- R and S of an interval. Assumes nothing.
use Rattle.std.specs.Prelude.{ℕ, ℤ}

-- the residual load R, and the spare generation S
pub record LoadAndSpare : Type 0 where
  pub load : ℤ
  pub spare : ℕ
