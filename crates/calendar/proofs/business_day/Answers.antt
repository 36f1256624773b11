-- `business_day` meets its contract: both checks in their order, then the test.
use Rattle.std.proofs.Common.{ap, ap₂, ◌∙◌}
use Rattle.std.proofs.lemmas.Result.{err_from_is_err_and}
use Rattle.calendar.specs.Calendar.{is_business_day, business_accepted, business_told}
use Rattle.calendar.proofs.laws.DateLaws.{day-given, day-read}
use Rattle.calendar.proofs.business_day.Goals as goal

pub returns-in_err-d : goal.returns-in_err-d
unfolding business_told
returns-in_err-d c =
    let p = err_from_is_err_and c.from_residual.result c.from_residual.ensures.1 in
    rw (p.1, p.2, c.in_err-d.ensures.1, day-given c.ranges.day c.in_err-d.ensures.0)

pub returns-in_err-list : goal.returns-in_err-list
unfolding business_told
returns-in_err-list c =
    let p = err_from_is_err_and c.from_residual-in_err-list.result c.from_residual-in_err-list.ensures.1 in
    rw (p.1, p.2, c.in_err-list.ensures.1, day-given c.ranges.day c.in_ok-d.ensures.0, c.in_err-list.ensures.0)

pub returns : goal.returns
unfolding business_told
returns c =
    rw (day-given c.ranges.day c.in_ok-d.ensures.0, c.in_ok-list.ensures.0)
    (ap business_accepted (c.is_business_day.ensures ∙ ap₂ is_business_day c.in_ok-list.ensures.1 (day-read c.ranges.day c.in_ok-d.ensures.1)))
