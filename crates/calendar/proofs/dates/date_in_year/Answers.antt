-- `date_in_year` meets its contract. The invariant: the days before the month and the rest are the days to go.
use Rattle.std.proofs.Common.{◌≡◌, ◌+◌, sym, ap, arith}
use Rattle.calendar.specs.Calendar.{days_before_month}
use Rattle.calendar.proofs.laws.YearLaws.{january, days_in_year-range, days_before_month-suc, december}
use Rattle.calendar.proofs.laws.DateLaws.{date_of-in_month}
use Rattle.calendar.proofs.dates.date_in_year.Goals as goal

pub loop-month-init : goal.loop-month-init
loop-month-init c = (omega arith, omega (arith, january c.args.year))

pub loop-month-preserved : goal.loop-month-preserved
loop-month-preserved c =
    let m = c.loop-month.month in
    (omega arith, omega (arith, c.days_in_month-length.ensures, days_before_month-suc c.args.year m (omega arith)))

pub overflow_add-result-2 : goal.overflow_add-result-2
overflow_add-result-2 c = omega (arith, days_in_year-range c.args.year)

pub returns-then-rest-length : goal.returns-then-rest-length
returns-then-rest-length c =
    let e = date_of-in_month c.args.year c.loop-month.month c.loop-month.rest (omega arith) (omega arith) (omega arith) (omega arith) (omega arith) in
    sym (rw c.loop-month.invariant.1 at e)

pub returns : goal.returns
returns c =
    let y = c.args.year in
    let m : c.loop-month.month ≡ 12 = omega arith in
    let b : days_before_month y c.loop-month.month ≡ days_before_month y 12 = ap (days_before_month y) m in
    let d : days_before_month y 12 + c.loop-month.rest ≡ c.args.days = omega arith in
    let e = date_of-in_month y 12 c.loop-month.rest (omega arith) (omega arith) (omega arith) (omega arith) (omega (arith, december y)) in
    sym (rw d at e)
