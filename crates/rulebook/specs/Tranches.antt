-- Document 01, "Shares and tranches": how a share is priced (000, section 5.2). Assumes nothing.
use Rattle.std.specs.Prelude.{◌≡◌, ℕ, ◌+◌, ◌-◌, ◌≤◌, ◌<◌, min}
use Rattle.rulebook.specs.Units.{less_or_zero}

-- min(RVQ, max(MQ − BVQ, 0)), priced RVP1
unfoldable pub tranche1 : ℕ → ℕ → ℕ → ℕ
tranche1 rvq bvq mq = min rvq (less_or_zero mq bvq)

-- the rest, priced RVP2
unfoldable pub tranche2 : ℕ → ℕ → ℕ → ℕ
tranche2 rvq bvq mq = rvq - tranche1 rvq bvq mq

-- they add to RVQ, and the first takes no more than the base contract could have given
pub record TrancheSplit (rvq bvq mq : ℕ) : Type 0 where
  pub whole : tranche1 rvq bvq mq + tranche2 rvq bvq mq ≡ rvq
  pub base : tranche1 rvq bvq mq ≤ less_or_zero mq bvq
  pub share : tranche1 rvq bvq mq ≤ rvq
  -- tranche 2 starts where tranche 1 is full
  pub full : 0 < tranche2 rvq bvq mq → tranche1 rvq bvq mq ≡ less_or_zero mq bvq
  -- a holder without base contract
  pub no_base : mq ≡ 0 → tranche1 rvq bvq mq ≡ 0
