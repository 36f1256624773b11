-- `residual_due` meets its contract: both checks in their order, then the first business day after the 10th of the second month following.
use Rattle.std.proofs.Common.{◌≡◌, sym, ap, ap₂, ◌∙◌}
use Rattle.std.proofs.lemmas.Result.{err_from_is_err_and}
use Rattle.integer.specs.Integer.{positive}
use Rattle.calendar.specs.Calendar.{is_business_day, nth_after, due_day, up_to_last_day, search_told, residual_due_told}
use Rattle.calendar.proofs.laws.DateLaws.{given}
use Rattle.calendar.proofs.laws.BusinessLaws.{found-returned}
use Rattle.calendar.proofs.residual_due.Goals as goal
use Rattle.calendar.proofs.residual_due.Goals.{After-natural-m}

-- what is read of the numbers given
year-read : (c : After-natural-m) → c.natural-y.result ≡ positive c.args.year
year-read c = c.natural-y.ensures ∙ given positive c.ranges.year

month-read : (c : After-natural-m) → c.natural-m.result ≡ positive c.args.month
month-read c = c.natural-m.ensures ∙ given positive c.ranges.month

pub returns-then-not-is_month : goal.returns-then-not-is_month
unfolding residual_due_told search_told
returns-then-not-is_month c =
    let g = (goal.at.returns-then-not-is_month c).After-natural-m in
    rw (← year-read g, ← month-read g, sym c.is_month.ensures ∙ c.if-not-is_month.true)

pub returns-in_err-list : goal.returns-in_err-list
unfolding residual_due_told search_told
returns-in_err-list c =
    let g = (goal.at.returns-in_err-list c).After-natural-m in
    let p = err_from_is_err_and c.from_residual.result c.from_residual.ensures.1 in
    rw (p.1, p.2, c.in_err-list.ensures.1, ← year-read g, ← month-read g, sym c.is_month.ensures ∙ c.if-not-is_month.false, c.in_err-list.ensures.0)

pub returns : goal.returns
unfolding residual_due_told search_told due_day
returns c =
    let g = (goal.at.returns c).After-natural-m in
    rw (← year-read g, ← month-read g, c.ok_or.ensures.value, found-returned c.nth_business_day.result, sym c.is_month.ensures ∙ c.if-not-is_month.false, c.in_ok-list.ensures.0)
    (ap up_to_last_day (c.nth_business_day.ensures ∙ ap₂ (λ days d. nth_after (is_business_day days) 1 d) c.in_ok-list.ensures.1 c.due_after.ensures))
