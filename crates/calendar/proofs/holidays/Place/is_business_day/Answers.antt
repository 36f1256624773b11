-- `Place::is_business_day` meets its contract: a remainder by 7 is at most Friday, so the one test is Monday to Friday.
use mathlib.Core.Path.{ap}
use mathlib.Core.Bool.{not}
use native.Mathlib.Omega.{arith}
use borrow.Author.Tests.{lt-leb, le-leb}
use Rattle.calendar.specs.Calendar.{monday, friday, weekday_of, is_business_day}
use Rattle.calendar.proofs.holidays.Place.is_business_day.Goals as goal

pub returns-else-self-ge-MONDAY : goal.returns-else-self-ge-MONDAY
unfolding is_business_day weekday_of
returns-else-self-ge-MONDAY c = rw (lt-leb monday (weekday_of c.args.self.now.day) c.if-self-ge-MONDAY.false)

pub returns-then-self-ge-MONDAY : goal.returns-then-self-ge-MONDAY
unfolding is_business_day weekday_of
returns-then-self-ge-MONDAY c =
    let d = c.args.self.now.day in
    rw (le-leb monday (weekday_of d) c.if-self-ge-MONDAY.true, le-leb (weekday_of d) friday (omega arith)) (ap not c.is_listed.ensures)
