-- What a pass over a profile's periods tells. Assumes nothing.
use Rattle.std.specs.Prelude.{Bool, ◌&&◌, List, ℕ, ◌+◌, ◌*◌, min, max, leb, eqb, ℤ}
use Rattle.integer.specs.Below.{fold, sum_ℕ}
use Rattle.integer.specs.Words.{word}
use Rattle.rulebook.specs.declared.Kind.TheVariants.{Quantity}
use Rattle.rulebook.specs.Units.{in_range, most_quantity}
use Rattle.rulebook.specs.Profile.{least_kwh, most_kwh}
use Rattle.rules.specs.declared.profile.Span.{Span}

-- both words of period b are quantities
abbrev pub period_in_range : List ℤ → ℕ → Bool
period_in_range profile b = in_range Quantity (word profile (2 * b)) && in_range Quantity (word profile (2 * b + 1))

-- the lowest and the highest kWh of n periods, and their total
unfoldable pub span_of : ℕ → (ℕ → ℕ) → Span
span_of n kwh = record { lowest = fold min (2 * most_quantity) n kwh; highest = fold max 0 n kwh; total = sum_ℕ n kwh }

-- with one period more
abbrev pub extended : Span → ℕ → Span
extended s kwh = record { lowest = min s.lowest kwh; highest = max s.highest kwh; total = s.total + kwh }

-- all within the limits of D, the total T
abbrev pub span_keeps : ℕ → ℕ → Span → Bool
span_keeps t d s = (leb (least_kwh d) s.lowest && leb s.highest (most_kwh d)) && eqb s.total t
