-- `date_of` meets its contract: the year holds the day, and the rest of the days is the date in it.
use Rattle.std.proofs.Common.{◌≡◌, ◌+◌, ◌-◌, ap, ◌∙◌, arith}
use Rattle.std.proofs.lemmas.Result.{err_from_is_err_and}
use Rattle.integer.specs.Integer.{positive}
use Rattle.calendar.specs.Calendar.{days_before_year, date_of, date_accepted, date_told}
use Rattle.calendar.proofs.laws.DateLaws.{day-given, day-read, of_is_day}
use Rattle.calendar.proofs.date_of.Goals as goal

pub returns-in_err-d : goal.returns-in_err-d
unfolding date_told
returns-in_err-d c =
    let p = err_from_is_err_and c.from_residual.result c.from_residual.ensures.1 in
    rw (p.1, p.2, c.in_err-d.ensures.1, day-given c.ranges.day c.in_err-d.ensures.0)

pub year_of-year-requires : goal.year_of-year-requires
year_of-year-requires c = omega (arith, day-read c.ranges.day c.in_ok-d.ensures.1, of_is_day c.args.day (day-given c.ranges.day c.in_ok-d.ensures.0))

pub returns : goal.returns
unfolding date_told
returns c =
    let k : days_before_year c.year_of-year.result + (c.in_ok-d.d - c.days_before_year.result) ≡ positive c.args.day = omega (arith, day-read c.ranges.day c.in_ok-d.ensures.1, c.days_before_year.ensures) in
    rw (day-given c.ranges.day c.in_ok-d.ensures.0) (ap date_accepted c.date_in_year.ensures ∙ ap (λ d. date_accepted (date_of d)) k)
