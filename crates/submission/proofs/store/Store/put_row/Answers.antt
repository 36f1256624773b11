-- `put_row` meets its contract: the fields say the row, and the grid of its form is the row stored.
use Rattle.std.proofs.Common.{◌≡◌, refl, ap, ◌∙◌, arith, List, ℕ, ◌+◌, ◌-◌, ◌*◌, ◌≤◌, length, length-drop}
use Rattle.rulebook.specs.declared.Terms.{Terms}
use Rattle.rulebook.specs.declared.Section.{Section}
use Rattle.rulebook.specs.Units.{intervals}
use Rattle.rulebook.specs.Terms.{InTerms}
use Rattle.rulebook.specs.File.{account_at, day_at, count_at, values_pos, values_in, row_end_of, row_end}
use Rattle.rulebook.specs.ReferencePrice.{most_facilities}
use Rattle.rulebook.specs.Layout.{width, interval_size, row_word, size}
use Rattle.files.proofs.laws.RowsLaws.{count-le}
use Rattle.submission.specs.declared.store.Form.{Form}
use Rattle.submission.specs.Stored.{RowFits, form_of}
use Rattle.submission.proofs.laws.StoredLaws.{row-start, row_room, row-part, row-stored}
use Rattle.submission.proofs.store.Store.put_row.Goals as goal
use Rattle.submission.proofs.store.Store.put_row.Goals.{After-place_of}

-- of a row that fits
module _ (o : Terms) (sec : Section) (file : List ℕ) (at : ℕ) (fits : RowFits o sec file at) where
  -- its last value ends within the file
  whole : values_pos sec at + 4 * values_in sec file at ≤ length file
  unfolding row_end
  whole = fits.whole

  few : {n : ℕ} → n ≡ count_at sec file at → n ≤ most_facilities
  few e = omega (arith, e, fits.count, count-le sec)

  -- its first word, and the room for all of them
  abbrev first_word : ℕ
  first_word = row_word o sec (account_at sec file at) (day_at sec file at) 0 0

  room : InTerms o → first_word + (intervals - 1) * interval_size o + width sec ≤ size o
  room within = row_room o sec (account_at sec file at) (day_at sec file at) within fits.account

pub count-count-requires : goal.count-count-requires
count-count-requires c = let r = c.args.row.now in omega (arith, whole c.args.self.now.terms r.section r.file.now r.at c.requires)

pub day-requires : goal.day-requires
day-requires c = let r = c.args.row.now in omega (arith, whole c.args.self.now.terms r.section r.file.now r.at c.requires)

pub account-requires : goal.account-requires
account-requires c = let r = c.args.row.now in omega (arith, whole c.args.self.now.terms r.section r.file.now r.at c.requires)

pub values-requires : goal.values-requires
values-requires c = let r = c.args.row.now in omega (arith, whole c.args.self.now.terms r.section r.file.now r.at c.requires)

-- where the row starts
placed : (c : After-place_of) → c.slot_start.result + c.place_of.result ≡ first_word c.args.self.now.terms c.args.row.now.section c.args.row.now.file.now c.args.row.now.at c.requires
placed c =
    let r = c.args.row.now in
    row-start c.args.self.now.terms r.section (account_at r.section r.file.now r.at) (day_at r.section r.file.now r.at) c.slot_start.ensures c.place_of.ensures.0 c.account.ensures c.day.ensures

pub overflow_add-start : goal.overflow_add-start
overflow_add-start c =
    let r = c.args.row.now in
    omega (arith, placed (goal.at.overflow_add-start c).After-place_of, room c.args.self.now.terms r.section r.file.now r.at c.requires c.get.ensures.accepted)

-- the form that its count has
formed : (c : After-place_of) → c.of-form.result ≡ form_of c.args.row.now.section (count_at c.args.row.now.section c.args.row.now.file.now c.args.row.now.at)
formed c = c.of-form.ensures ∙ ap (form_of c.args.row.now.section) c.count-count.ensures

pub put_row-requires : goal.put_row-requires
unfolding interval_size
put_row-requires c =
    let r = c.args.row.now in
    let f = formed (goal.at.put_row-requires c).After-place_of in
    let p = placed (goal.at.put_row-requires c).After-place_of in
    let stride = c.interval_length-stride.ensures ∙ ap (λ (o : Terms). interval_size o) c.get.ensures.same in
    let words = ap (λ (x : Form). x.words) f in
    let values = ap (λ (x : Form). x.values) f in (
      omega (arith, words, stride, p, room c.args.self.now.terms r.section r.file.now r.at c.requires c.get.ensures.accepted),
      omega (arith, values, ap length c.values.ensures, length-drop (values_pos r.section r.at) r.file.now, whole c.args.self.now.terms r.section r.file.now r.at c.requires),
    )

pub returns-clause-past : goal.returns-clause-past
unfolding row_end
returns-clause-past c = let r = c.args.row.now in c.end.ensures ∙ ap (row_end_of r.section r.at) c.count-count.ensures

pub returns-clause-words : goal.returns-clause-words
unfolding interval_size
returns-clause-words c =
    let r = c.args.row.now in
    let at = (goal.at.returns-clause-words c).After-place_of in
    let stride = c.interval_length-stride.ensures ∙ ap (λ (o : Terms). interval_size o) c.get.ensures.same in
    (rw (c.values.ensures, row-part c.of-form.result r.file.now (values_pos r.section r.at)) at c.put_row.ensures)
    ∙ row-stored c.args.self.now.terms r.section r.file.now r.at c.args.self.now.words.now (placed at) stride (formed at) refl c.get.ensures.accepted c.requires c.args.self.now.room
