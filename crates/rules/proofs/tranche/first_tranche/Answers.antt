use Rattle.std.proofs.Common.{arith}
use Rattle.rulebook.specs.Tranches.{tranche1}
use Rattle.rules.proofs.tranche.first_tranche.Goals as goal

pub returns : goal.returns
unfolding tranche1
returns c = omega arith
