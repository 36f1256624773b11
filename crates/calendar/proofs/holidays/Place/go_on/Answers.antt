-- `Place::go_on` meets its contract: past the entry that is the day, or at the same index.
use Rattle.calendar.proofs.laws.HolidayLaws.{next_day}
use Rattle.calendar.proofs.holidays.Place.go_on.Goals as goal

pub invariant_of-self : goal.invariant_of-self
invariant_of-self c =
    let s = c.args.self.now in
    record { first = rw (c.from.ensures, c.is_listed.ensures) (next_day s.holidays.days.now s.holidays.proper s.day s.next s.first) }
