-- `is_day` meets its contract: the two tests are those of `is_day`.
use borrow.Author.Rules.{rules}
use Rattle.calendar.specs.Calendar.{is_day}
use Rattle.calendar.proofs.dates.is_day.Goals as goal

pub returns : goal.returns
unfolding is_day
returns c = search rules
