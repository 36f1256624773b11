-- `row` meets its contract: account and day are judged, then the mark is asked and set, then count and values are judged.
use Rattle.std.proofs.Common.{◌≡◌, refl, sym, ap, ◌∙◌, arith, List, ℕ, ◌+◌, ◌-◌, ◌*◌, ◌≤◌, ◌<◌, length, Ok, Err, Bor, eqb, eq-eqb, ne_eqb}
use Rattle.std.proofs.lemmas.Result.{err_from_is_err_and}
use Rattle.rulebook.specs.declared.Why.TheVariants.{OutOfRange, DayNotOpen}
use Rattle.rulebook.specs.Sections.{least_count, most_count}
use Rattle.rulebook.specs.File.{account_bytes, count_bytes, day_pos, count_pos, values_pos, account_at, day_at, count_at, values_of, values_in, row_end}
use Rattle.rulebook.specs.Judging.{open_from, field_in, key, up_to, value}
use Rattle.rulebook.proofs.laws.JudgingLaws.{Keyed, keyed, field-says}
use Rattle.files.specs.declared.sections.RowForm.{RowForm}
use Rattle.files.specs.Marks.{mark_of, marked}
use Rattle.files.proofs.laws.RowsLaws.{field-accepted, field-refused, key-account, key-day, key-accepted, row-refused, row-again, row-count, row-values, marks-set, values-judged, count-le}
use Rattle.files.proofs.laws.MarksLaws.{row-mark_fits}
use Rattle.files.proofs.laws.ValuesLaws.{values-end}
use Rattle.files.proofs.judge.Judge.row.Goals as goal
use Rattle.files.proofs.judge.Judge.row.Goals.{In_err-account, In_ok-day, In_err-day, After-replace-again, In_ok-count, In_err-count, After-judge_values}

-- ---- The account

account-off : (c : In_err-account) → key c.args.self.now.limits c.args.section c.args.self.now.reader.file.now c.args.self.now.reader.at ≡ Err c.in_err-account.field-0.0
account-off c =
    key-account _ _ _ _ (field-refused OutOfRange (ap (λ (f : RowForm). f.account_bytes) c.row_form-form.ensures.0) refl refl refl refl _ c.in_err-account.ensures.answer)

-- ---- The day

day-off : (c : In_err-day) → key c.args.self.now.limits c.args.section c.args.self.now.reader.file.now c.args.self.now.reader.at ≡ Err c.in_err-day.field-0.0
day-off c =
    let form = ap (λ (f : RowForm). f.account_bytes) c.row_form-form.ensures.0 in
    let account = field-accepted OutOfRange form refl refl refl refl _ c.in_ok-account.ensures.answer in
    let past : c.field.new.self.at ≡ day_pos c.args.section c.args.self.now.reader.at = omega (arith, c.in_ok-account.ensures.past, form) in
    key-day _ _ _ _ account.0
    (field-refused DayNotOpen refl c.open_from-low.ensures refl (ap (λ (f : Bor (List ℕ)). f.now) c.field.ensures.file) past _ c.in_err-day.ensures.answer)

module _ (c : In_ok-day) where
  account-on : (field_in (account_bytes c.args.section) 0 (c.args.self.now.limits.accounts - 1) OutOfRange c.args.self.now.reader.file.now c.args.self.now.reader.at ≡ Ok tt)
      × (account_at c.args.section c.args.self.now.reader.file.now c.args.self.now.reader.at ≡ c.in_ok-account.account)
  account-on =
      field-accepted OutOfRange (ap (λ (f : RowForm). f.account_bytes) c.row_form-form.ensures.0) refl refl refl refl _ c.in_ok-account.ensures.answer

  -- the reader stands past the account
  at-day : c.field.new.self.at ≡ day_pos c.args.section c.args.self.now.reader.at
  at-day = omega (arith, c.in_ok-account.ensures.past, ap (λ (f : RowForm). f.account_bytes) c.row_form-form.ensures.0)

  day-on : (field_in 2 (open_from c.args.self.now.limits c.args.section) c.args.self.now.limits.last DayNotOpen c.args.self.now.reader.file.now (day_pos c.args.section c.args.self.now.reader.at) ≡ Ok tt)
      × (day_at c.args.section c.args.self.now.reader.file.now c.args.self.now.reader.at ≡ c.in_ok-day.day)
  day-on = field-accepted DayNotOpen refl c.open_from-low.ensures refl (ap (λ (f : Bor (List ℕ)). f.now) c.field.ensures.file) at-day _ c.in_ok-day.ensures.answer

  key-on : key c.args.self.now.limits c.args.section c.args.self.now.reader.file.now c.args.self.now.reader.at ≡ Ok tt
  key-on = key-accepted _ _ _ _ account-on.0 day-on.0

  mark-on : mark_of c.args.self.now.limits c.args.section c.args.self.now.reader.file.now c.args.self.now.reader.at ≡ 32 * (c.in_ok-day.day - c.open_from-low.result) + c.in_ok-account.account
  mark-on = rw (account-on.1, day-on.1, c.open_from-low.ensures)

  named : Keyed c.args.self.now.limits c.args.section c.args.self.now.reader.file.now c.args.self.now.reader.at
  named = keyed _ _ _ _ key-on

  inside : 32 * (c.in_ok-day.day - c.open_from-low.result) + c.in_ok-account.account < length c.args.self.now.marks.now
  inside = rw mark-on at (row-mark_fits _ _ _ _ _ c.args.self.now.judgeable key-on)

  -- the reader stands past the day
  at-count : c.field-2.new.self.at ≡ count_pos c.args.section c.args.self.now.reader.at
  at-count = omega (arith, c.in_ok-day.ensures.past, at-day)

  file-count : c.field-2.new.self.file.now ≡ c.args.self.now.reader.file.now
  file-count = ap (λ (f : Bor (List ℕ)). f.now) c.field-2.ensures.file ∙ ap (λ (f : Bor (List ℕ)). f.now) c.field.ensures.file

-- ---- The mark

-- what was read there, before it was set
was : (c : After-replace-again) → mark_of c.args.self.now.limits c.args.section c.args.self.now.reader.file.now c.args.self.now.reader.at ≡ 32 * (c.in_ok-day.day - c.open_from-low.result) + c.in_ok-account.account
    → marked c.args.self.now.marks.now (mark_of c.args.self.now.limits c.args.section c.args.self.now.reader.file.now c.args.self.now.reader.at) ≡ eqb c.replace-again.result 1
was c e = rw e (ap (λ v. eqb v 1) (sym c.replace-again.ensures.value))

-- ---- The count

module _ (c : In_err-count) (es : c.field-2.new.self.file.now ≡ c.args.self.now.reader.file.now) (ep : c.field-2.new.self.at ≡ count_pos c.args.section c.args.self.now.reader.at) where
  count-off : field_in (count_bytes c.args.section) (least_count c.args.section) (most_count c.args.section) OutOfRange c.args.self.now.reader.file.now (count_pos c.args.section c.args.self.now.reader.at)
      ≡ Err c.in_err-count.field-0.0
  count-off =
      let form = c.row_form-form.ensures.0 in
      field-refused OutOfRange (ap (λ (f : RowForm). f.count_bytes) form) (ap (λ (f : RowForm). f.least_count) form) (ap (λ (f : RowForm). f.most_count) form) es ep _ c.in_err-count.ensures.answer

module _ (c : In_ok-count) (es : c.field-2.new.self.file.now ≡ c.args.self.now.reader.file.now) (ep : c.field-2.new.self.at ≡ count_pos c.args.section c.args.self.now.reader.at) where
  count-on : (field_in (count_bytes c.args.section) (least_count c.args.section) (most_count c.args.section) OutOfRange c.args.self.now.reader.file.now (count_pos c.args.section c.args.self.now.reader.at) ≡ Ok tt)
      × (count_at c.args.section c.args.self.now.reader.file.now c.args.self.now.reader.at ≡ c.in_ok-count.count)
  count-on =
      let form = c.row_form-form.ensures.0 in
      field-accepted OutOfRange (ap (λ (f : RowForm). f.count_bytes) form) (ap (λ (f : RowForm). f.least_count) form) (ap (λ (f : RowForm). f.most_count) form) es ep _ c.in_ok-count.ensures.answer

  few : c.in_ok-count.count ≤ 4
  few = omega (arith, count-le c.args.section, (field-says _ _ _ _ _ _ count-on.0).to, count-on.1)

  -- the reader stands past the count
  at-values : c.field-3.new.self.at ≡ values_pos c.args.section c.args.self.now.reader.at
  at-values = omega (arith, c.in_ok-count.ensures.past, ep, ap (λ (f : RowForm). f.count_bytes) c.row_form-form.ensures.0)

  file-values : c.field-3.new.self.file.now ≡ c.args.self.now.reader.file.now
  file-values = ap (λ (f : Bor (List ℕ)). f.now) c.field-3.ensures.file ∙ es

-- ---- The values

module _ (c : After-judge_values) (es : c.field-3.new.self.file.now ≡ c.args.self.now.reader.file.now) (ep : c.field-3.new.self.at ≡ values_pos c.args.section c.args.self.now.reader.at)
    (ec : count_at c.args.section c.args.self.now.reader.file.now c.args.self.now.reader.at ≡ c.in_ok-count.count) where
  number : c.values_of-n.result ≡ values_in c.args.section c.args.self.now.reader.file.now c.args.self.now.reader.at
  number = c.values_of-n.ensures.0 ∙ ap (values_of c.args.section) (sym ec)

  judged-values : c.judge_values.result
      ≡ up_to (values_in c.args.section c.args.self.now.reader.file.now c.args.self.now.reader.at) (value c.args.section c.args.self.now.reader.file.now (values_pos c.args.section c.args.self.now.reader.at))
  judged-values =
      c.judge_values.ensures
      ∙ values-judged c.args.section c.args.self.now.reader.file.now c.args.self.now.reader.at es ep number c.field-3.new.self.inside c.min-cut.ensures

-- ---- The answers

pub returns-in_err-account-clause-answer : goal.returns-in_err-account-clause-answer
returns-in_err-account-clause-answer c =
    let p = err_from_is_err_and c.from_residual.result c.from_residual.ensures.1 in
    rw (p.1, p.2) (row-refused _ _ _ _ _ (account-off (goal.at.returns-in_err-account-clause-answer c).In_err-account))

pub returns-in_err-account-clause-marks : goal.returns-in_err-account-clause-marks
returns-in_err-account-clause-marks c = rw (account-off (goal.at.returns-in_err-account-clause-marks c).In_err-account)

pub returns-in_err-day-clause-answer : goal.returns-in_err-day-clause-answer
returns-in_err-day-clause-answer c =
    let p = err_from_is_err_and c.from_residual-in_err-day.result c.from_residual-in_err-day.ensures.1 in
    rw (p.1, p.2) (row-refused _ _ _ _ _ (day-off (goal.at.returns-in_err-day-clause-answer c).In_err-day))

pub returns-in_err-day-clause-marks : goal.returns-in_err-day-clause-marks
returns-in_err-day-clause-marks c = rw (day-off (goal.at.returns-in_err-day-clause-marks c).In_err-day)

pub overflow_sub-mark : goal.overflow_sub-mark
overflow_sub-mark c =
    let o = (goal.at.overflow_sub-mark c).In_ok-day in
    omega (arith, (named o).day.from, (day-on o).1, c.open_from-low.ensures)

pub overflow_mul-mark : goal.overflow_mul-mark
overflow_mul-mark c = omega (arith, inside (goal.at.overflow_mul-mark c).In_ok-day)

pub overflow_add-mark : goal.overflow_add-mark
overflow_add-mark c = omega (arith, inside (goal.at.overflow_add-mark c).In_ok-day)

pub bounds-marks-mark : goal.bounds-marks-mark
bounds-marks-mark c = inside (goal.at.bounds-marks-mark c).In_ok-day

pub returns-then-again-clause-answer : goal.returns-then-again-clause-answer
returns-then-again-clause-answer c =
    let o = (goal.at.returns-then-again-clause-answer c).In_ok-day in
    rw (at-day o) (row-again _ _ _ _ _ (key-on o) (was (goal.at.returns-then-again-clause-answer c).After-replace-again (mark-on o) ∙ eq-eqb _ _ c.if-again.true))

pub returns-in_err-count-clause-answer : goal.returns-in_err-count-clause-answer
returns-in_err-count-clause-answer c =
    let o = (goal.at.returns-in_err-count-clause-answer c).In_ok-day in
    let p = err_from_is_err_and c.from_residual-in_err-count.result c.from_residual-in_err-count.ensures.1 in
    rw (p.1, p.2)
    (row-count _ _ _ _ _ (key-on o) (was (goal.at.returns-in_err-count-clause-answer c).After-replace-again (mark-on o) ∙ ne_eqb _ _ c.if-again.false)
    (count-off (goal.at.returns-in_err-count-clause-answer c).In_err-count (file-count o) (at-count o)))

pub returns-in_err-count-clause-marks : goal.returns-in_err-count-clause-marks
returns-in_err-count-clause-marks c =
    let o = (goal.at.returns-in_err-count-clause-marks c).In_ok-day in
    marks-set _ _ _ _ _ (key-on o) (mark-on o) c.replace-again.ensures.after

pub values_of-n-requires : goal.values_of-n-requires
values_of-n-requires c =
    let o = (goal.at.values_of-n-requires c).In_ok-day in
    few (goal.at.values_of-n-requires c).In_ok-count (file-count o) (at-count o)

pub returns-in_err-judge_values-clause-answer : goal.returns-in_err-judge_values-clause-answer
returns-in_err-judge_values-clause-answer c =
    let o = (goal.at.returns-in_err-judge_values-clause-answer c).In_ok-day in
    let n = (goal.at.returns-in_err-judge_values-clause-answer c).In_ok-count in
    let p = err_from_is_err_and c.from_residual-in_err-judge_values.result c.from_residual-in_err-judge_values.ensures.1 in
    let v = judged-values (goal.at.returns-in_err-judge_values-clause-answer c).After-judge_values (file-values n (file-count o) (at-count o)) (at-values n (file-count o) (at-count o)) (count-on n (file-count o) (at-count o)).1 in
    rw (p.1, p.2)
    (sym c.in_err-judge_values.was ∙ v
    ∙ row-values _ _ _ _ _ (key-on o) (was (goal.at.returns-in_err-judge_values-clause-answer c).After-replace-again (mark-on o) ∙ ne_eqb _ _ c.if-again.false) (count-on n (file-count o) (at-count o)).0)

pub returns-in_err-judge_values-clause-marks : goal.returns-in_err-judge_values-clause-marks
returns-in_err-judge_values-clause-marks c =
    let o = (goal.at.returns-in_err-judge_values-clause-marks c).In_ok-day in
    marks-set _ _ _ _ _ (key-on o) (mark-on o) c.replace-again.ensures.after

pub invariant_of-self-3 : goal.invariant_of-self-3
invariant_of-self-3 c =
    let a = c.args.self.now.reader in
    let o = (goal.at.invariant_of-self-3 c).In_ok-day in
    let n = (goal.at.invariant_of-self-3 c).In_ok-count in
    let j = (goal.at.invariant_of-self-3 c).After-judge_values in
    let f = file-values n (file-count o) (at-count o) in
    let p = at-values n (file-count o) (at-count o) in
    let k = count-on n (file-count o) (at-count o) in
    let v = values-end c.args.section a.file.now (values_pos c.args.section a.at) (values_in c.args.section a.file.now a.at) (field-says _ _ _ _ _ _ k.0).whole (sym (judged-values j f p k.1) ∙ c.in_ok-judge_values.was) in
    record { inside = omega (arith, v, p, number j f p k.1, ap length f) }

pub returns-clause-answer : goal.returns-clause-answer
returns-clause-answer c =
    let o = (goal.at.returns-clause-answer c).In_ok-day in
    let n = (goal.at.returns-clause-answer c).In_ok-count in
    let v = judged-values (goal.at.returns-clause-answer c).After-judge_values (file-values n (file-count o) (at-count o)) (at-values n (file-count o) (at-count o)) (count-on n (file-count o) (at-count o)).1 in
    sym c.in_ok-judge_values.was ∙ v
    ∙ row-values _ _ _ _ _ (key-on o) (was (goal.at.returns-clause-answer c).After-replace-again (mark-on o) ∙ ne_eqb _ _ c.if-again.false) (count-on n (file-count o) (at-count o)).0

pub returns-clause-past : goal.returns-clause-past
unfolding row_end
returns-clause-past c =
    let o = (goal.at.returns-clause-past c).In_ok-day in
    let n = (goal.at.returns-clause-past c).In_ok-count in
    let p = at-values n (file-count o) (at-count o) in
    omega (arith, p, number (goal.at.returns-clause-past c).After-judge_values (file-values n (file-count o) (at-count o)) p (count-on n (file-count o) (at-count o)).1)

pub returns-clause-marks : goal.returns-clause-marks
returns-clause-marks c =
    let o = (goal.at.returns-clause-marks c).In_ok-day in
    marks-set _ _ _ _ _ (key-on o) (mark-on o) c.replace-again.ensures.after
