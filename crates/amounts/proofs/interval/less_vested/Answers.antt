-- `less_vested` meets its contract: both are small, so the difference fits.
use lib.IntN.{pos, ◌-ℤ◌}
use mir.Syntax.{w64}
use mir.Val.{SFits, of_z}
use Rattle.integer.proofs.laws.IntegerLaws.{int}
use Rattle.integer.proofs.Bits.{Holds, holds, holds-ok, holds_as, fits_sub, op_fits, op_holds}
use Rattle.amounts.proofs.interval.less_vested.Goals as goal
use Rattle.amounts.proofs.interval.less_vested.Goals.{After-signed}

module _ (c : After-signed) where
  vested-bits : Holds (of_z w64 c.signed.result) (pos c.args.vested)
  vested-bits = holds_as c.signed.ensures (holds-ok c.signed.result c.signed.type_inv)

  fits : SFits w64 (c.args.load -ℤ pos c.args.vested)
  fits = fits_sub c.args.load (pos c.args.vested) (omega (int, c.requires.0, c.requires.1))

pub overflow_sub-result : goal.overflow_sub-result
overflow_sub-result c = op_fits ◌-ℤ◌ (holds c.ranges.load) (vested-bits (goal.at.overflow_sub-result c).After-signed) (fits (goal.at.overflow_sub-result c).After-signed)

pub returns : goal.returns
returns c = (op_holds ◌-ℤ◌ (holds c.ranges.load) (vested-bits (goal.at.returns c).After-signed) (fits (goal.at.returns c).After-signed)).is
