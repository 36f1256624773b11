-- `is_month` meets its contract: the two ranges are those of `is_month`.
use borrow.Author.Rules.{rules}
use Rattle.calendar.specs.Calendar.{is_month}
use Rattle.calendar.proofs.dates.is_month.Goals as goal

pub returns : goal.returns
unfolding is_month
returns c = search rules
