-- `days_in_month` meets its contract: each arm is the case of `days_in_month` that its numbers pick.
use Rattle.std.proofs.Common.{sym, ◌∙◌, arith}
use Rattle.std.proofs.lemmas.Grind.{common_steps}
use Rattle.calendar.specs.Calendar.{days_in_month}
use Rattle.calendar.proofs.dates.days_in_month.Goals as goal

pub returns-then-is_leap : goal.returns-then-is_leap
unfolding days_in_month
returns-then-is_leap c = rw (c.in-2.is, sym c.is_leap.ensures ∙ c.if-is_leap.true)

pub returns-else-is_leap : goal.returns-else-is_leap
unfolding days_in_month
returns-else-is_leap c = rw (c.in-2.is, sym c.is_leap.ensures ∙ c.if-is_leap.false)

pub returns-in-4 : goal.returns-in-4
unfolding days_in_month
returns-in-4 c = grind (arith, common_steps)

pub returns-in_default : goal.returns-in_default
unfolding days_in_month
returns-in_default c = grind (arith, common_steps)
