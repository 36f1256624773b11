-- `days_before_month` meets its contract. The invariant: the days are those before month m, hence within a year. The measure is the months left.
use mathlib.Core.Path.{sym}
use native.Mathlib.Omega.{arith}
use Rattle.calendar.proofs.laws.YearLaws.{january, days_in_year-range, days_before_month-within, days_before_month-suc}
use Rattle.calendar.proofs.dates.days_before_month.Goals as goal

pub loop-m-init : goal.loop-m-init
loop-m-init c = (omega arith, omega arith, sym (january c.args.year))

pub overflow_add-days : goal.overflow_add-days
overflow_add-days c =
    let y = c.args.year in
    let m = c.loop-m.m in
    omega (arith, c.days_in_month-days.ensures, days_before_month-within y m (omega arith) (omega arith), days_in_year-range y)

pub loop-m-preserved : goal.loop-m-preserved
loop-m-preserved c =
    let y = c.args.year in
    let m = c.loop-m.m in
    (omega arith, omega arith, omega (arith, c.days_in_month-days.ensures, days_before_month-suc y m (omega arith)))
