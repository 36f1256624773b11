-- `is_date` meets its contract: the month and the day of the month are judged as in `is_date`.
use borrow.Author.Rules.{rules}
use Rattle.calendar.specs.Calendar.{is_date}
use Rattle.calendar.proofs.dates.is_date.Goals as goal

pub returns : goal.returns
unfolding is_date
returns c = search rules
