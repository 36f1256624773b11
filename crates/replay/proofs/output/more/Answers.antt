-- `more` meets its contract: it is the definition, and a remainder is below the prime.
use native.Mathlib.Omega.{arith}
use mathlib.Core.Path.{refl}
use Rattle.replay.specs.Digests.{more}
use Rattle.replay.proofs.output.more.Goals as goal

pub returns : goal.returns
unfolding more
returns c = (refl, omega arith)
