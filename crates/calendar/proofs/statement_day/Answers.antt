-- `statement_day` meets its contract: a day plus 75, compared with the last day.
use Rattle.std.proofs.Common.{ap, arith}
use Rattle.std.proofs.lemmas.Result.{err_from_is_err_and}
use borrow.Author.Tests.{lt-leb, le-leb}
use Rattle.integer.specs.Integer.{positive}
use Rattle.rulebook.specs.Units.{last_day}
use Rattle.calendar.specs.Calendar.{statement_day, day_accepted, statement_told}
use Rattle.calendar.proofs.laws.DateLaws.{day-given, day-read}
use Rattle.calendar.proofs.statement_day.Goals as goal

pub returns-in_err-d : goal.returns-in_err-d
unfolding statement_told
returns-in_err-d c =
    let p = err_from_is_err_and c.from_residual.result c.from_residual.ensures.1 in
    rw (p.1, p.2, c.in_err-d.ensures.1, day-given c.ranges.day c.in_err-d.ensures.0)

pub returns-then-d-gt-LAST_DAY : goal.returns-then-d-gt-LAST_DAY
unfolding statement_told statement_day
returns-then-d-gt-LAST_DAY c =
    let p = lt-leb (statement_day (positive c.args.day)) last_day (omega (arith, day-read c.ranges.day c.in_ok-d.ensures.1)) in
    rw (day-given c.ranges.day c.in_ok-d.ensures.0, p)

pub returns : goal.returns
unfolding statement_told statement_day
returns c =
    let e = day-read c.ranges.day c.in_ok-d.ensures.1 in
    let p = le-leb (statement_day (positive c.args.day)) last_day (omega (arith, e)) in
    rw (day-given c.ranges.day c.in_ok-d.ensures.0, p) (ap (λ n. day_accepted (statement_day n)) e)
