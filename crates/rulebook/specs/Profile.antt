-- Document 02, P1: a 48-interval profile made by a load forecaster (000, section 2). Assumes nothing.
use Rattle.std.specs.Prelude.{◌≡◌, Bool, ◌&&◌, ℕ, ◌+◌, ◌*◌, ◌-◌, ◌/◌, ◌≤◌, ◌<◌, leb, eqb}
use Rattle.integer.specs.Below.{all, sum_ℕ}
use Rattle.rulebook.specs.Units.{intervals}

-- T, the day's total, is at most mostDayKwh
abbrev pub most_day_kwh : ℕ
most_day_kwh = 480000000

-- D, the daily contracted quantity's kWh equivalent for one Gas Balancing Period, is at most mostContracted
abbrev pub most_contracted : ℕ
most_contracted = 10000000

-- ---- Gas Balancing Periods: pairs of intervals, the first of each odd-numbered

abbrev pub balancing_periods : ℕ
balancing_periods = 24

-- the kWh of period b. Intervals are numbered from 1 and stand at indices from 0: those of the first period, 1 and 2, at 0 and 1
abbrev pub period_kwh : (ℕ → ℕ) → ℕ → ℕ
period_kwh q b = q (2 * b) + q (2 * b + 1)

-- ---- The rule

-- 48 quantities keep the limits of D and T: no period below 80 per cent of D or above 125, all 48 totalling T
pub record KeepsLimits (t d : ℕ) (q : ℕ → ℕ) : Type 0 where
  pub floor : (b : ℕ) → b < balancing_periods → 80 * d ≤ 100 * period_kwh q b
  pub cap : (b : ℕ) → b < balancing_periods → 100 * period_kwh q b ≤ 125 * d
  pub total : sum_ℕ intervals q ≡ t

-- ---- How it is tested

-- the least and the most whole kWh of a period
abbrev pub least_kwh : ℕ → ℕ
least_kwh d = (4 * d + 4) / 5

abbrev pub most_kwh : ℕ → ℕ
most_kwh d = 5 * d / 4

-- a period's kWh, at least `least` and at most `most`
abbrev pub period_fits : ℕ → ℕ → ℕ → Bool
period_fits least most kwh = leb least kwh && leb kwh most

unfoldable pub keeps_limits : ℕ → ℕ → (ℕ → ℕ) → Bool
keeps_limits t d q = all balancing_periods (λ b. period_fits (least_kwh d) (most_kwh d) (period_kwh q b)) && eqb (sum_ℕ intervals q) t

-- some 48 quantities keep the limits
unfoldable pub total_possible : ℕ → ℕ → Bool
total_possible t d = leb (balancing_periods * least_kwh d) t && leb t (balancing_periods * most_kwh d)

-- such quantities: T spread evenly, the whole kWh up to and with an interval less those before it
abbrev pub evenly : ℕ → ℕ → ℕ
evenly t i = (i + 1) * t / intervals - i * t / intervals
