use Rattle.std.proofs.Common.{◌≡◌, ◌-◌, ◌≤◌, ◌<◌}
use Rattle.rulebook.specs.Units.{last_day}
use Rattle.calendar.specs.declared.holidays.Holidays.{Holidays}
use Rattle.calendar.specs.Calendar.{is_business_day, days_after}
use Rattle.calendar.proofs.holidays.Holidays.nth_business_day.Given as goal

abbrev pub invariant-loop-place : goal.invariant-loop-place
invariant-loop-place l =
    (l.d ≤ l.place.day) × (l.passed ≡ days_after (is_business_day l.self.days.now) l.d l.place.day) × (l.passed < l.n)
    × ◌≡◌ {A = Holidays} l.place.holidays l.self

abbrev pub decreases-loop-place : goal.decreases-loop-place
decreases-loop-place l = last_day - l.place.day
