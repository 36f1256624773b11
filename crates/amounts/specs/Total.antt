-- The running total of a day, and what is posted of it. Assumes nothing.
use Rattle.std.specs.Prelude.{ℤ, pos, ◌+ℤ◌, ◌-ℤ◌, ◌*ℤ◌}
use Rattle.rulebook.specs.Units.{thousandths_per_cent}
use Rattle.rulebook.specs.DayAmount.{in_cents}
use Rattle.amounts.specs.declared.total.DayTotal.{DayTotal}
use Rattle.amounts.specs.declared.total.Posted.{Posted}

-- with one interval's amount more
abbrev pub absorbed : DayTotal → ℤ → DayTotal
absorbed t amount = record { thousandths = t.thousandths +ℤ amount }

-- its cents, and what they leave
abbrev pub posted_of : DayTotal → Posted
posted_of t = record { cents = in_cents t.thousandths; difference = t.thousandths -ℤ pos thousandths_per_cent *ℤ in_cents t.thousandths }
