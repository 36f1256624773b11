-- `day_number` meets its contract: the three parts of `day_of`, each of which is small.
use native.Mathlib.Omega.{arith}
use Rattle.calendar.specs.Calendar.{day_of}
use Rattle.calendar.proofs.laws.YearLaws.{days_before_year-closed, days_in_year-range, days_before_month-within}
use Rattle.calendar.proofs.dates.day_number.Goals as goal

pub overflow_add-result : goal.overflow_add-result
overflow_add-result c =
    let s = c.args in
    omega (arith, days_before_year-closed s.date.year, days_in_year-range s.date.year, days_before_month-within s.date.year s.date.month (omega arith) (omega arith))

pub overflow_add-result-2 : goal.overflow_add-result-2
overflow_add-result-2 c =
    let s = c.args in
    omega (arith, days_before_year-closed s.date.year, days_in_year-range s.date.year, days_before_month-within s.date.year s.date.month (omega arith) (omega arith))

pub returns : goal.returns
unfolding day_of
returns c = cc
