-- `days_before_year` meets its contract: the sum over the years, closed.
use Rattle.std.proofs.Common.{◌≡◌, ◌+◌, ◌-◌, ◌/◌, sym, arith}
use Rattle.calendar.proofs.laws.YearLaws.{days_before_year-closed}
use Rattle.calendar.proofs.dates.days_before_year.Goals as goal

pub returns : goal.returns
returns c = let v : c.div_ceil.result ≡ (c.args.year - 2000 + 3) / 4 = omega (arith, c.div_ceil.ensures) in rw v (sym (days_before_year-closed c.args.year))
