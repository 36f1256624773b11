-- Tranches: `TrancheSplit` holds. Assumes nothing.
use Rattle.std.specs.Prelude.{ℕ}
use Rattle.std.proofs.Common.{arith}
use Rattle.rulebook.specs.Tranches.{tranche1, tranche2, TrancheSplit}

pub tranche-split : (rvq bvq mq : ℕ) → TrancheSplit rvq bvq mq
unfolding tranche1 tranche2
tranche-split rvq bvq mq = record { whole = omega arith; base = omega arith; share = omega arith; full = λ e. omega arith; no_base = λ e. omega arith }
