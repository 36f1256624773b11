-- `is_proper` meets its contract: an empty list is proper, any other by `proper_by_ends`.
use Rattle.std.proofs.Common.{◌≡◌, ◌-◌, ◌<◌, rules, sym, ap, ap₂, ◌∙◌, length, eqb-true, arith}
use Rattle.std.proofs.lemmas.Bool.{eqb-false}
use mathlib.Core.Bool.{◌&&◌}
use Rattle.integer.specs.Below.{fold}
use Rattle.integer.proofs.Bits.{got}
use Rattle.integer.specs.Words.{word}
use Rattle.calendar.specs.Calendar.{is_day, is_proper}
use Rattle.calendar.proofs.laws.HolidayLaws.{proper_by_ends}
use Rattle.calendar.proofs.holidays.is_proper.Goals as goal
use Rattle.calendar.proofs.holidays.is_proper.Goals.{After-is_day-2, Else-is_empty}

pub returns-then-is_empty : goal.returns-then-is_empty
unfolding is_proper fold
returns-then-is_empty c = let e = eqb-true (length c.args.days.now) 0 (sym c.if-is_empty.ensures) in rw e

some : (c : Else-is_empty) → 0 < length c.args.days.now
some c = let n = eqb-false (length c.args.days.now) 0 (sym c.if-is_empty.ensures) in omega arith

-- the first entry and the last
ends : (c : After-is_day-2) → (c.is_day.result && c.is_day-2.result) ≡ (is_day (word c.args.days.now 0) && is_day (word c.args.days.now (length c.args.days.now - 1)))
ends c =
    let xs = c.args.days.now in
    ap₂ ◌&&◌ (c.is_day.ensures ∙ ap is_day (got (word xs 0) (search rules))) (c.is_day-2.ensures ∙ ap is_day (got (word xs (length xs - 1)) (search rules)))

pub returns-then-is_day : goal.returns-then-is_day
returns-then-is_day c =
    rw (proper_by_ends c.args.days.now (some (goal.at.returns-then-is_day c).Else-is_empty), sym (ends (goal.at.returns-then-is_day c).After-is_day-2) ∙ c.if-is_day.true) c.is_ascending.ensures

pub returns-else-is_day : goal.returns-else-is_day
returns-else-is_day c =
    let e = sym (ends (goal.at.returns-else-is_day c).After-is_day-2) ∙ c.if-is_day.false in
    rw (proper_by_ends c.args.days.now (some (goal.at.returns-else-is_day c).Else-is_empty), e, c.if-is_day.false)
