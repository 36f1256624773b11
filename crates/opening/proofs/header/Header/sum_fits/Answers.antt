-- `sum_fits` meets its contract: N times the bound of an account.
use Rattle.std.proofs.Common.{arith}
use Rattle.integer.proofs.Bits.{got}
use Rattle.rulebook.specs.WellFormed.{sum_fits}
use Rattle.opening.proofs.header.Header.sum_fits.Goals as goal

pub returns : goal.returns
unfolding sum_fits
returns c = rw (c.is_within.ensures, c.bound.ensures.0, c.get-n.ensures.same, got c.args.sum (omega arith))
