-- `day_of` meets its contract: the numbers given are judged as a date, and then numbered.
use Rattle.std.proofs.Common.{◌≡◌, sym, ap, ◌∙◌, arith}
use Rattle.integer.specs.Integer.{positive}
use Rattle.calendar.specs.Calendar.{Date, date_given, day_accepted, day_told}
use Rattle.calendar.proofs.laws.YearLaws.{days_in_month-range}
use Rattle.calendar.proofs.laws.DateLaws.{given, of_is_date}
use Rattle.calendar.proofs.day_of.Goals as goal
use Rattle.calendar.proofs.day_of.Goals.{After-natural-3}

-- the date that was read is the one that was given
read : (c : After-natural-3) → ◌≡◌ {A = Date} (record { year = c.natural.result; month = c.natural-2.result; day = c.natural-3.result }) (date_given c.args.year c.args.month c.args.day)
read c =
    let y = c.natural.ensures ∙ given positive c.ranges.year in
    let m = c.natural-2.ensures ∙ given positive c.ranges.month in
    let d = c.natural-3.ensures ∙ given positive c.ranges.day in
    λ i. record { year = y i; month = m i; day = d i }

pub returns-then-not-is_date : goal.returns-then-not-is_date
unfolding day_told
returns-then-not-is_date c = rw (← read (goal.at.returns-then-not-is_date c).After-natural-3, sym c.is_date.ensures ∙ c.if-not-is_date.true)

pub day_number-requires : goal.day_number-requires
day_number-requires c =
    let date : Date = record { year = c.natural.result; month = c.natural-2.result; day = c.natural-3.result } in
    omega (arith, of_is_date date (sym c.is_date.ensures ∙ c.if-not-is_date.false), days_in_month-range date.year date.month)

pub returns : goal.returns
unfolding day_told
returns c =
    rw (← read (goal.at.returns c).After-natural-3, sym c.is_date.ensures ∙ c.if-not-is_date.false) (ap day_accepted c.day_number.ensures)
