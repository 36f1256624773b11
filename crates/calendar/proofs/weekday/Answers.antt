-- `weekday` meets its contract: the remainder of the day by 7.
use Rattle.std.proofs.Common.{ap}
use Rattle.std.proofs.lemmas.Result.{err_from_is_err_and}
use Rattle.calendar.specs.Calendar.{weekday_of, weekday_accepted, weekday_told}
use Rattle.calendar.proofs.laws.DateLaws.{day-given, day-read}
use Rattle.calendar.proofs.weekday.Goals as goal

pub returns-in_err-d : goal.returns-in_err-d
unfolding weekday_told
returns-in_err-d c =
    let p = err_from_is_err_and c.from_residual.result c.from_residual.ensures.1 in
    rw (p.1, p.2, c.in_err-d.ensures.1, day-given c.ranges.day c.in_err-d.ensures.0)

pub returns : goal.returns
unfolding weekday_told weekday_of
returns c =
    rw (day-given c.ranges.day c.in_ok-d.ensures.0)
    (ap (λ n. weekday_accepted (weekday_of n)) (day-read c.ranges.day c.in_ok-d.ensures.1))
