use Rattle.std.proofs.Common.{◌≡◌, ◌+◌, ◌≤◌}
use Rattle.calendar.specs.Calendar.{days_before_month}
use Rattle.calendar.proofs.dates.date_in_year.Given as goal

abbrev pub invariant-loop-month : goal.invariant-loop-month
invariant-loop-month l = (l.month ≤ 12) × (days_before_month l.year l.month + l.rest ≡ l.days)
