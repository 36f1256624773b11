-- Laws of rows and sections, by their parts. Assumes nothing.
use Rattle.std.specs.Prelude.{◌≡◌, Bool, true, false, not, List, ℕ, ◌+◌, ◌-◌, ◌*◌, ◌≤◌, set, min, length, take, drop, Ok, Err}
use Rattle.std.proofs.Math.Path.{refl}
use Rattle.std.proofs.Common.{sym, ap, ◌∙◌, arith, length-set, Bor}
use Rattle.integer.specs.Below.{turns}
use Rattle.integer.proofs.laws.BelowLaws.{turns-suc}
use Rattle.rulebook.specs.declared.Section.{Section}
use Rattle.rulebook.specs.declared.Section.TheVariants.{Vesting, Meter, Residual, Ncc}
use Rattle.rulebook.specs.declared.Limits.{Limits}
use Rattle.rulebook.specs.declared.Refusal.{Refusal}
use Rattle.rulebook.specs.declared.Why.{Why}
use Rattle.rulebook.specs.declared.Why.TheVariants.{OutOfRange, DayNotOpen, Repeated}
use Rattle.rulebook.specs.Sections.{least_count, most_count}
use Rattle.rulebook.specs.File.{num, account_bytes, count_bytes, day_pos, count_pos, values_pos, values_in, row_end, row_pos, rows_in, section_end}
use Rattle.rulebook.specs.Judging.{Verdict, open_from, require, refused, ◌and_then◌, up_to, value, whole, field_in, key, rest, row_after, judged_row, judged_section}
use Rattle.rulebook.proofs.laws.JudgingLaws.{then_both, checked, field-says, keyed}
use Rattle.files.specs.Outcome.{outcome}
use Rattle.files.proofs.laws.FieldsLaws.{outcome-ok, outcome-err, up_none, up_more}
use Rattle.files.specs.Judgeable.{Judgeable}
use Rattle.files.specs.Values.{value_in}
use Rattle.files.specs.Marks.{mark_of, marked, unmarked, marks_after, Marked, Before}
use Rattle.files.proofs.laws.MarksLaws.{length-unmarked, marked-none, marked_more}
use Rattle.files.proofs.laws.ValuesLaws.{values-part, values-end}

-- ---- A field that the code read, by the rule book's names

module _ (why : Why) {n m low low' high high' p at : ℕ} {s' s : List ℕ} (en : n ≡ m) (el : low ≡ low') (eh : high ≡ high') (es : s' ≡ s) (ep : p ≡ at) where
  pub field-accepted : (v : ℕ) → Ok v ≡ outcome (field_in n low high why s' p) (num n s' p) → (field_in m low' high' why s at ≡ Ok tt) × (num m s at ≡ v)
  field-accepted v e = let x = outcome-ok (field_in n low high why s' p) (num n s' p) v (sym e) in rw (en, el, eh, es, ep) at x

  pub field-refused : (r : Refusal) → Err r ≡ outcome (field_in n low high why s' p) (num n s' p) → field_in m low' high' why s at ≡ Err r
  field-refused r e = let x = outcome-err (field_in n low high why s' p) (num n s' p) r (sym e) in rw (en, el, eh, es, ep) at x

-- ---- A row

pub count-le : (sec : Section) → most_count sec ≤ 4
count-le Vesting = omega arith
count-le Meter = omega arith
count-le Residual = omega arith
count-le Ncc = omega arith

module _ (l : Limits) (sec : Section) (s : List ℕ) (at : ℕ) where
  pub key-account : {r : Refusal} → field_in (account_bytes sec) 0 (l.accounts - 1) OutOfRange s at ≡ Err r → key l sec s at ≡ Err r
  unfolding key
  key-account e = rw e

  module _ (e : field_in (account_bytes sec) 0 (l.accounts - 1) OutOfRange s at ≡ Ok tt) where
    pub key-day : {r : Refusal} → field_in 2 (open_from l sec) l.last DayNotOpen s (day_pos sec at) ≡ Err r → key l sec s at ≡ Err r
    unfolding key
    key-day f = rw (e, f)

    pub key-accepted : field_in 2 (open_from l sec) l.last DayNotOpen s (day_pos sec at) ≡ Ok tt → key l sec s at ≡ Ok tt
    unfolding key
    key-accepted f = rw (e, f)

module _ (l : Limits) (sec : Section) (s : List ℕ) (at : ℕ) (again : Bool) where
  pub row-refused : {r : Refusal} → key l sec s at ≡ Err r → Err r ≡ row_after l sec s at again
  unfolding row_after
  row-refused e = rw e

  module _ (e : key l sec s at ≡ Ok tt) where
    pub row-again : again ≡ true → refused Repeated (day_pos sec at) ≡ row_after l sec s at again
    unfolding row_after
    row-again t = rw (e, t)

    module _ (t : again ≡ false) where
      pub row-count : {r : Refusal} → field_in (count_bytes sec) (least_count sec) (most_count sec) OutOfRange s (count_pos sec at) ≡ Err r → Err r ≡ row_after l sec s at again
      unfolding row_after rest
      row-count f = rw (e, t, f)

      pub row-values : field_in (count_bytes sec) (least_count sec) (most_count sec) OutOfRange s (count_pos sec at) ≡ Ok tt
          → up_to (values_in sec s at) (value sec s (values_pos sec at)) ≡ row_after l sec s at again
      unfolding row_after rest
      row-values f = rw (e, t, f)

  -- what an accepted row says of its parts
  pub row-parts : row_after l sec s at again ≡ Ok tt → (key l sec s at ≡ Ok tt) × (rest sec s at ≡ Ok tt)
  unfolding row_after
  row-parts e =
      let p = then_both (key l sec s at) _ e in
      (p.0, (checked (not again) Repeated (day_pos sec at) _ p.1).1)

-- whether a row was given before matters only where its account and day are accepted
row_same : (l : Limits) (sec : Section) (s : List ℕ) (at : ℕ) (x y : Bool) → (key l sec s at ≡ Ok tt → x ≡ y) → row_after l sec s at x ≡ row_after l sec s at y
unfolding row_after
row_same l sec s at x y h = by (key l sec s at) h
  where
    by : (k : Verdict) → (k ≡ Ok tt → x ≡ y)
        → k and_then require (not x) Repeated (day_pos sec at) and_then rest sec s at ≡ k and_then require (not y) Repeated (day_pos sec at) and_then rest sec s at
    by (Ok u) f = rw (f refl)
    by (Err r) f = refl

-- the marks where account and day are accepted: the row's own is set
pub marks-set : (k : Verdict) (m n b : ℕ) (marks : List ℕ) → k ≡ Ok tt → m ≡ n → b ≡ 1 → set marks n b ≡ marks_after k m marks
marks-set k m n b marks e f t = rw (e, f, t)

-- the values, judged in the part of the file from a to e that they stand in
pub values-judged : (sec : Section) (s : List ℕ) (at : ℕ) {s' : List ℕ} {a e n : ℕ} → s' ≡ s → a ≡ values_pos sec at → n ≡ values_in sec s at → a ≤ length s' → e ≡ min (a + 4 * n) (length s')
    → up_to n (value_in sec (take (e - a) (drop a s')) a) ≡ up_to (values_in sec s at) (value sec s (values_pos sec at))
values-judged sec s at {s'} {a} {e} {n} es ea en h ee = values-part sec s' a e n h ee ∙ rw (es, ea, en)

-- an accepted row stands within the file
pub row-end : (sec : Section) (s : List ℕ) (at : ℕ) → rest sec s at ≡ Ok tt → row_end sec s at ≤ length s
unfolding rest row_end
row-end sec s at e =
    let p = then_both (field_in (count_bytes sec) (least_count sec) (most_count sec) OutOfRange s (count_pos sec at)) _ e in
    values-end sec s (values_pos sec at) (values_in sec s at) (field-says _ _ _ _ _ _ p.0).whole p.1

-- ---- The rows of a section

module _ (sec : Section) (s : List ℕ) (first : ℕ) where
  pub pos-none : row_pos sec s first 0 ≡ first
  unfolding row_pos turns
  pos-none = refl

  pub pos-more : (i : ℕ) → row_pos sec s first (i + 1) ≡ row_end sec s (row_pos sec s first i)
  unfolding row_pos
  pos-more i = turns-suc i (λ _ at. row_end sec s at) first

module _ (l : Limits) (sec : Section) (s : List ℕ) (first : ℕ) where
  judged-parts : (i : ℕ) → judged_row l sec s first i ≡ Ok tt → (key l sec s (row_pos sec s first i) ≡ Ok tt) × (rest sec s (row_pos sec s first i) ≡ Ok tt)
  unfolding judged_row
  judged-parts i = row-parts l sec s (row_pos sec s first i) _

  pub before_none : (n : ℕ) → Judgeable l n → first ≤ length s → Before l sec s first 0 first (unmarked n)
  before_none n b h = record {
    place = sym (pos-none sec s first);
    inside = h;
    room = rw (length-unmarked n) b;
    accepted = up_none _;
    noted = marked-none l sec s first n;
  }

  module _ {i at : ℕ} {marks : List ℕ} (h : Before l sec s first i at marks) where
    -- row i is judged by the marks
    before_row : row_after l sec s at (marked marks (mark_of l sec s at)) ≡ judged_row l sec s first i
    unfolding Marked judged_row
    before_row =
        rw h.place
        (row_same l sec s (row_pos sec s first i) _ _
        (λ e. let k = keyed l sec s (row_pos sec s first i) e in h.noted _ _ (omega (arith, h.room.some, h.room.few, k.account.to)) k.day.from k.day.to))

    -- and accepted
    before_more : {next : ℕ} {after : List ℕ} → judged_row l sec s first i ≡ Ok tt → next ≡ row_end sec s at → after ≡ marks_after (key l sec s at) (mark_of l sec s at) marks
        → Before l sec s first (i + 1) next after
    before_more e en em =
        let p = judged-parts i e in
        rw (em, en, h.place, p.0)
        (record {
          place = sym (pos-more sec s first i);
          inside = row-end sec s (row_pos sec s first i) p.1;
          room = rw length-set h.room;
          accepted = up_more i _ h.accepted e;
          noted = marked_more l sec s first i marks h.room p.0 h.noted;
        })

    -- the same, by what the code has in hand
    module _ {l' : Limits} {s' : List ℕ} (el : l' ≡ l) (es : s' ≡ s) where
      pub before-judged : (x : Verdict) → x ≡ row_after l' sec s' at (marked marks (mark_of l' sec s' at)) → x ≡ judged_row l sec s first i
      before-judged x e = rw (el, es) at e ∙ before_row

      pub before-next : {next : ℕ} {after : List ℕ} → Ok tt ≡ row_after l' sec s' at (marked marks (mark_of l' sec s' at)) → next ≡ row_end sec s' at → after ≡ marks_after (key l' sec s' at) (mark_of l' sec s' at) marks
          → Before l sec s first (i + 1) next after
      before-next e en em = before_more (sym (before-judged (Ok tt) e)) (rw es at en) (rw (el, es) at em)

-- ---- A section

module _ (l : Limits) (sec : Section) (s : List ℕ) (at : ℕ) where
  pub section-cut : {r : Refusal} → Err r ≡ outcome (whole 2 s at) (rows_in s at) → judged_section l sec s at ≡ Err r
  unfolding judged_section
  section-cut {r} e = rw (outcome-err (whole 2 s at) (rows_in s at) r (sym e))

  -- the rows after a whole count
  module _ (count : ℕ) (e : Ok count ≡ outcome (whole 2 s at) (rows_in s at)) where
    pub section-rows : judged_section l sec s at ≡ up_to count (judged_row l sec s (at + 2))
    unfolding judged_section
    section-rows = let p = outcome-ok (whole 2 s at) (rows_in s at) count (sym e) in rw (p.0, p.1)

    pub section-past : section_end sec s at ≡ row_pos sec s (at + 2) count
    unfolding section_end
    section-past = let p = outcome-ok (whole 2 s at) (rows_in s at) count (sym e) in rw p.1

-- ---- The sections of a file

-- what the code judges by, reads and has reached is the rule book's
pub record Reached (l : Limits) (s : List ℕ) (at : ℕ) (l' : Limits) (s' : Bor (List ℕ)) (p : ℕ) : Type 0 where
  pub limits : l' ≡ l
  pub file : s'.now ≡ s
  pub place : p ≡ at

module _ {l : Limits} (sec : Section) {s : List ℕ} {at : ℕ} {l' : Limits} {s' : Bor (List ℕ)} {p : ℕ} (h : Reached l s at l' s' p) where
  pub section-refused : (r : Refusal) → Err r ≡ judged_section l' sec s'.now p → judged_section l sec s at ≡ Err r
  section-refused r e = rw (h.limits, h.file, h.place) at (sym e)

  pub section-passed : {l'' : Limits} {s'' : Bor (List ℕ)} {p' : ℕ} → Ok tt ≡ judged_section l' sec s'.now p → p' ≡ section_end sec s'.now p → s'' ≡ s' → l'' ≡ l'
      → (judged_section l sec s at ≡ Ok tt) × Reached l s (section_end sec s at) l'' s'' p'
  section-passed e ep es el = (rw (h.limits, h.file, h.place) at (sym e), record { limits = el ∙ h.limits; file = ap (λ (f : Bor (List ℕ)). f.now) es ∙ h.file; place = rw (h.file, h.place) at ep })
