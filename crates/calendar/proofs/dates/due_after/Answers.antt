-- `due_after` meets its contract: the branch is that of `due_after`, and both dates can be numbered.
use native.Mathlib.Omega.{arith}
use borrow.Author.Tests.{lt-ltb, le-ltb}
use Rattle.calendar.specs.Calendar.{due_after}
use Rattle.calendar.proofs.laws.DateLaws.{of_is_month}
use Rattle.calendar.proofs.dates.due_after.Goals as goal

pub overflow_add-year : goal.overflow_add-year
overflow_add-year c = omega (arith, of_is_month c.args.year c.args.month c.requires)

pub day_number-requires : goal.day_number-requires
day_number-requires c = omega (arith, of_is_month c.args.year c.args.month c.requires)

pub day_number-requires-else-month-gt10 : goal.day_number-requires-else-month-gt10
day_number-requires-else-month-gt10 c = omega (arith, of_is_month c.args.year c.args.month c.requires)

pub returns-then-month-gt10 : goal.returns-then-month-gt10
unfolding due_after
returns-then-month-gt10 c = rw (lt-ltb 10 c.args.month c.if-month-gt10.true) c.day_number.ensures

pub returns-else-month-gt10 : goal.returns-else-month-gt10
unfolding due_after
returns-else-month-gt10 c = rw (le-ltb 10 c.args.month c.if-month-gt10.false) c.day_number-else-month-gt10.ensures
