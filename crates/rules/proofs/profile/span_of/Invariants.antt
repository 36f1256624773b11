use Rattle.std.proofs.Common.{◌≡◌, true, ◌*◌, ◌≤◌}
use Rattle.integer.specs.Below.{all}
use Rattle.rulebook.specs.Units.{most_quantity}
use Rattle.rulebook.specs.Profile.{period_kwh}
use Rattle.rulebook.specs.Calls.{quantities_in}
use Rattle.rules.specs.PeriodsTold.{period_in_range, span_of}
use Rattle.rules.proofs.profile.span_of.Given as goal

abbrev pub invariant-loop-first : goal.invariant-loop-first
invariant-loop-first l =
    (all l.first-index (period_in_range l.profile) ≡ true) × (l.span ≡ span_of l.first-index (period_kwh (quantities_in l.profile))) × (l.span.total ≤ l.first-index * (2 * most_quantity))
