-- `priced` meets its contract: the difference is within 2,000,000 and the product within 2 × 10^13, so both fit.
use Prim.Native.Nat.{◌≤◌}
use lib.IntN.{nat_abs, ◌-ℤ◌}
use mir.Syntax.{w64}
use mir.Val.{SFits}
use Rattle.integer.proofs.laws.IntegerLaws.{int, abs-sub, fits-abs}
use Rattle.integer.proofs.Bits.{holds, op_fits}
use Rattle.amounts.proofs.cell.priced.Goals as goal
use Rattle.amounts.proofs.cell.priced.Goals.{Start}

module _ (c : Start) where
  difference-le : nat_abs (c.args.price -ℤ c.args.v) ≤ 2000000
  difference-le = omega (int, abs-sub c.args.price c.args.v, c.requires.0, c.requires.1)

  difference-fits : SFits w64 (c.args.price -ℤ c.args.v)
  difference-fits = fits-abs (omega (int, difference-le))

pub overflow_sub-result : goal.overflow_sub-result
overflow_sub-result c = op_fits ◌-ℤ◌ (holds c.ranges.price) (holds c.ranges.v) (difference-fits (goal.at.overflow_sub-result c).Start)
