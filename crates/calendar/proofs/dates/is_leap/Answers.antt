-- `is_leap` meets its contract: its test is that of `is_leap`.
use borrow.Author.Rules.{rules}
use Rattle.calendar.specs.Calendar.{is_leap}
use Rattle.calendar.proofs.dates.is_leap.Goals as goal

pub returns : goal.returns
unfolding is_leap
returns c = search rules
