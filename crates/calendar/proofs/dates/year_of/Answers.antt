-- `year_of` meets its contract: the days before the year and before the next, closed, and arithmetic on 1,461 days.
use Prim.Native.Nat.{ℕ, ◌+◌, ◌*◌, ◌-◌, ◌/◌, ◌%◌}
use native.Mathlib.Omega.{arith}
use Rattle.calendar.proofs.laws.YearLaws.{days_before_year-closed, days_before_year-suc}
use Rattle.calendar.proofs.dates.year_of.Goals as goal

pub returns-then-rest-lt366 : goal.returns-then-rest-lt366
returns-then-rest-lt366 c =
    let y : ℕ = 2000 + 4 * (c.args.day / 1461) in
    omega (arith, days_before_year-closed y, days_before_year-closed (y + 1), days_before_year-suc y (omega arith))

pub returns-else-rest-lt366 : goal.returns-else-rest-lt366
returns-else-rest-lt366 c =
    let d = c.args.day in
    let y : ℕ = 2001 + 4 * (d / 1461) + (d % 1461 - 366) / 365 in
    omega (arith, days_before_year-closed y, days_before_year-closed (y + 1), days_before_year-suc y (omega arith))
