-- `final_statement` meets its contract: both checks in their order, then the tenth business day after the statement day.
use Rattle.std.proofs.Common.{ap, ap₂, ◌∙◌}
use Rattle.std.proofs.lemmas.Result.{err_from_is_err_and}
use Rattle.calendar.specs.Calendar.{statement_day, final_statement, up_to_last_day, search_told, final_statement_told}
use Rattle.calendar.proofs.laws.DateLaws.{day-given, day-read}
use Rattle.calendar.proofs.laws.BusinessLaws.{found-returned}
use Rattle.calendar.proofs.final_statement.Goals as goal

pub returns-in_err-d : goal.returns-in_err-d
unfolding final_statement_told search_told
returns-in_err-d c =
    let p = err_from_is_err_and c.from_residual.result c.from_residual.ensures.1 in
    rw (p.1, p.2, c.in_err-d.ensures.1, day-given c.ranges.day c.in_err-d.ensures.0)

pub returns-in_err-list : goal.returns-in_err-list
unfolding final_statement_told search_told
returns-in_err-list c =
    let p = err_from_is_err_and c.from_residual-in_err-list.result c.from_residual-in_err-list.ensures.1 in
    rw (p.1, p.2, c.in_err-list.ensures.1, day-given c.ranges.day c.in_ok-d.ensures.0, c.in_err-list.ensures.0)

pub returns : goal.returns
unfolding final_statement_told search_told final_statement statement_day
returns c =
    let days = c.in_ok-list.ensures.1 in
    let d = day-read c.ranges.day c.in_ok-d.ensures.1 in
    rw (c.ok_or.ensures.value, found-returned c.nth_business_day.result, day-given c.ranges.day c.in_ok-d.ensures.0, c.in_ok-list.ensures.0)
    (ap up_to_last_day (c.nth_business_day.ensures ∙ ap₂ final_statement days d))
