-- Document 01, "Reference price V" (003, 3.6.1). Assumes nothing.
use Rattle.std.specs.Prelude.{cond, ℕ, eqb, ℤ, pos, ◌*ℤ◌}
use Rattle.integer.specs.Below.{sum_ℕ, sum_ℤ}
use Rattle.rulebook.specs.Units.{nearest, positive}

-- 1 to 4 facilities, each with an MEP (price) and an IEQ (metered injection)
abbrev pub most_facilities : ℕ
most_facilities = 4

-- the weight of a facility is max(IEQ, 0)
abbrev pub weight : ℤ → ℕ
weight ieq = positive ieq

-- Σ weight
abbrev pub total_weight : ℕ → (ℕ → ℤ) → ℕ
total_weight n ieq = sum_ℕ n (λ f. weight (ieq f))

-- Σ (MEP × weight)
abbrev pub weighted_sum : ℕ → (ℕ → ℤ) → (ℕ → ℤ) → ℤ
weighted_sum n mep ieq = sum_ℤ n (λ f. mep f *ℤ pos (weight (ieq f)))

-- V of n facilities from these sums: the weighted average, or where Σ weight is 0 the simple average, each to the nearest
unfoldable pub average : ℤ → ℕ → ℤ → ℕ → ℤ
average weighted weights simple n = cond (eqb weights 0) (nearest simple n) (nearest weighted weights)

-- V of n facilities
unfoldable pub reference_price : ℕ → (ℕ → ℤ) → (ℕ → ℤ) → ℤ
reference_price n mep ieq = average (weighted_sum n mep ieq) (total_weight n ieq) (sum_ℤ n mep) n
