-- The judge says of a file what it says at the file's fields in order. Assumes nothing.
use Rattle.std.specs.Prelude.{◌≡◌, not, leb, length, Ok}
use Rattle.std.proofs.Math.Path.{refl, sym, ap}
use Rattle.std.proofs.Common.{◌∙◌}
use mathlib.Core.List.{List, [], ◌∷◌, ◌++◌, flat_map}
use Rattle.std.proofs.Math.Logic.{⊎_elim}
use Prim.Native.Nat.{ℕ, zero, suc, ◌+◌, ◌*◌, ◌-◌, ◌<◌}
use native.Mathlib.Omega.{arith}
use borrow.Author.Tests.{le-leb, lt-leb}
use Rattle.integer.specs.Below.{fold, any, tabulate}
use Rattle.integer.proofs.laws.BelowLaws.{lt_or_le}
use Rattle.rulebook.specs.declared.Section.{Section}
use Rattle.rulebook.specs.declared.Section.TheVariants.{Vesting, Meter, Residual, Ncc}
use Rattle.rulebook.specs.declared.Terms.{Terms}
use Rattle.rulebook.specs.declared.Why.{Why}
use Rattle.rulebook.specs.declared.Why.TheVariants.{NotWhole, OutOfRange, DayNotOpen, Repeated, Excess}
use Rattle.rulebook.specs.Judging.{Verdict, refused}
use Rattle.rulebook.specs.Sections.{per_interval}
use Rattle.rulebook.specs.File.{num, values_pos, values_in, account_at, day_at, count_at, row_pos, rows_in, ncc_pos, end_pos}
use Rattle.rulebook.specs.Judging.{require, ◌and_then◌, up_to, open_from, limits_of, whole, field_in, value, key, given, rest, row_after, judged_row, judged_section, judged}
use Rattle.rulebook.specs.NamedRows.{NamedRow}
use Rattle.rulebook.specs.Proper.{same_key}
use Rattle.rulebook.specs.FileTable.{Field, EndOfFile, row_of, heading_fields, interval_fields, row_fields, section_fields, fields_of}
use Rattle.rulebook.proofs.laws.TestLaws.{any_same}
use Rattle.rulebook.proofs.laws.SoundLaws.{kind-turn}
use Rattle.rulebook.proofs.laws.ListLaws.{map-tabulate}
use Rattle.rulebook.proofs.laws.VerdictLaws.{then_assoc, then_accepted, then_same, up_cong, up_front, up_rows, field_cut}
use Rattle.rulebook.proofs.laws.IntervalLaws.{figure-table, is_figure}
use Rattle.rulebook.proofs.laws.PositionLaws.{section-end}
use Rattle.rulebook.proofs.laws.SectionRowsLaws.{same_self}
use Rattle.rulebook.proofs.laws.FieldVerdictLaws.{verdict_at, verdicts}

module _ (o : Terms) (C : ℕ) (s : List ℕ) where
  -- ---- Fields in order

  verdicts-append : (xs ys : List Field) → verdicts o C s (xs ++ ys) ≡ verdicts o C s xs and_then verdicts o C s ys
  unfolding verdicts
  verdicts-append [] ys = refl
  verdicts-append (f ∷ xs) ys = rw (verdicts-append xs ys) (sym (then_assoc (verdict_at o C s f) (verdicts o C s xs) (verdicts o C s ys)))

  verdicts-table : (n : ℕ) (f : ℕ → Field) → verdicts o C s (tabulate n f) ≡ up_to n (λ i. verdict_at o C s (f i))
  unfolding tabulate verdicts
  verdicts-table zero f = unfold fold in refl
  verdicts-table (suc n) f = ap (λ x. verdict_at o C s (f 0) and_then x) (verdicts-table n (λ k. f (suc k))) ∙ sym (up_front n (λ i. verdict_at o C s (f i)))

  verdicts-parts : (f : ℕ → List Field) (n : ℕ) (g : ℕ → ℕ) → verdicts o C s (flat_map f (tabulate n g)) ≡ up_to n (λ i. verdicts o C s (f (g i)))
  unfolding flat_map tabulate
  verdicts-parts f zero g = unfold verdicts fold in refl
  verdicts-parts f (suc n) g =
      verdicts-append (f (g 0)) _ ∙ ap (λ x. verdicts o C s (f (g 0)) and_then x) (verdicts-parts f n (λ k. g (suc k))) ∙ sym (up_front n (λ i. verdicts o C s (f (g i))))

  -- ---- The values of a row

  interval-verdict : (sec : Section) (p h : ℕ) → verdicts o C s (interval_fields sec s p h)
      ≡ up_to (per_interval sec (count_at sec s p)) (λ k. value sec s (values_pos sec p) (h * per_interval sec (count_at sec s p) + k))
  unfolding interval_fields value verdict_at
  interval-verdict sec p h =
      let n : ℕ = count_at sec s p in
      rw (figure-table sec n, map-tabulate)
      (verdicts-table (per_interval sec n) _
      ∙ up_cong (per_interval sec n) _ _
      (λ k l. let f = is_figure sec n k l in rw (f.place, ← f.kind, kind-turn sec n h k)))

  values-verdict : (sec : Section) (p : ℕ) → verdicts o C s (flat_map (interval_fields sec s p) (tabulate 48 (λ h. h))) ≡ up_to (values_in sec s p) (value sec s (values_pos sec p))
  values-verdict sec p =
      verdicts-parts (interval_fields sec s p) 48 (λ h. h)
      ∙ up_cong 48 _ _ (λ h l. interval-verdict sec p h)
      ∙ sym (up_rows 48 (per_interval sec (count_at sec s p)) (value sec s (values_pos sec p)))

  -- ---- A row

  given-any : (sec : Section) (at i k : ℕ) → given sec s (at + 2) i (account_at sec s (row_pos sec s (at + 2) k)) (day_at sec s (row_pos sec s (at + 2) k))
      ≡ any i (λ j. same_key (row_of sec s at j) (row_of sec s at k))
  unfolding given
  given-any sec at i k = any_same i _ _ (λ j l. rw (same_self sec))

  -- a field of no bytes adds nothing
  no_field : (high : ℕ) (why : Why) (p : ℕ) (y : Verdict) → (length s < p → y ≡ refused NotWhole p) → field_in 0 0 high why s p and_then y ≡ y
  unfolding field_in num
  no_field high why p y h =
      ⊎_elim (λ l. rw (lt-leb (p + 0) (length s) (omega arith)) (sym (h l)))
      (λ l. rw (le-leb (p + 0) (length s) (omega arith), le-leb 0 high (omega arith)))
      (lt_or_le (length s) p)

  day-cut : (low high p q : ℕ) → q ≡ p → length s < p → field_in 2 low high DayNotOpen s q ≡ refused NotWhole p
  day-cut low high p q e h = rw e (field_cut 2 low high DayNotOpen s p (omega arith))

  values-cut : (sec : Section) (n p q : ℕ) → q ≡ p → length s < p → up_to (suc n) (value sec s q) ≡ refused NotWhole p
  unfolding value
  values-cut sec n p q e h =
      let z : q + 4 * 0 ≡ p = omega arith in
      up_front n (value sec s q) ∙ rw (z, lt-leb (p + 4) (length s) (omega arith))

  module _ (rows : ℕ → NamedRow) (i p : ℕ) where
    -- at a row's account and day
    abbrev account_there : Verdict
    account_there = field_in 1 0 (o.accounts - 1) OutOfRange s p

    abbrev day_there : Section → ℕ → Verdict
    day_there sec q =
        field_in 2 (open_from (limits_of o C) sec) (limits_of o C).last DayNotOpen s q and_then require (not (any i (λ j. same_key (rows j) (rows i)))) Repeated q

    vesting-heading : verdicts o C s (heading_fields Vesting rows i p) ≡ account_there and_then (day_there Vesting (p + 1) and_then (field_in 1 0 3 OutOfRange s (p + 1 + 2) and_then (Ok tt)))
    unfolding verdicts verdict_at heading_fields
    vesting-heading = let z : p + 3 ≡ p + 1 + 2 = omega arith in rw z

    meter-heading : verdicts o C s (heading_fields Meter rows i p) ≡ account_there and_then (day_there Meter (p + 1) and_then (field_in 1 1 4 OutOfRange s (p + 1 + 2) and_then (Ok tt)))
    unfolding verdicts verdict_at heading_fields
    meter-heading = let z : p + 3 ≡ p + 1 + 2 = omega arith in rw z

    residual-heading : verdicts o C s (heading_fields Residual rows i p) ≡ account_there and_then (day_there Residual (p + 1) and_then (Ok tt))
    unfolding verdicts verdict_at heading_fields
    residual-heading = refl

    ncc-heading : verdicts o C s (heading_fields Ncc rows i p) ≡ day_there Ncc (p + 0) and_then (Ok tt)
    unfolding verdicts verdict_at heading_fields
    ncc-heading = let z : p + 0 ≡ p = omega arith in rw z

  row-verdict : (sec : Section) (at i : ℕ) → judged_row (limits_of o C) sec s (at + 2) i ≡ verdicts o C s (row_fields sec s at i)
  unfolding judged_row row_after key rest row_fields
  row-verdict Vesting at i = rw (verdicts-append, values-verdict, given-any, vesting-heading) (simp (then_assoc, then_accepted))
  row-verdict Meter at i = rw (verdicts-append, values-verdict, given-any, meter-heading) (simp (then_assoc, then_accepted))
  row-verdict Residual at i =
      let p : ℕ = row_pos Residual s (at + 2) i in
      rw (verdicts-append, values-verdict, given-any, residual-heading)
      (rw (no_field 0 OutOfRange (p + 1 + 2) _ (λ h. values-cut Residual 191 (p + 1 + 2) (p + 1 + 2 + 0) (omega arith) h)) (simp (then_assoc, then_accepted)))
  row-verdict Ncc at i =
      let p : ℕ = row_pos Ncc s (at + 2) i in
      rw (verdicts-append, values-verdict, given-any, ncc-heading)
      (rw (no_field 0 OutOfRange (p + 0 + 2) _ (λ h. values-cut Ncc 47 (p + 0 + 2) (p + 0 + 2 + 0) (omega arith) h))
      (rw (no_field (o.accounts - 1) OutOfRange p _ (λ h. day-cut (open_from (limits_of o C) Ncc) (limits_of o C).last p (p + 0) (omega arith) h))
      (simp (then_assoc, then_accepted))))

  -- ---- The file

  section-verdict : (sec : Section) (at : ℕ) → judged_section (limits_of o C) sec s at ≡ verdicts o C s (section_fields sec s at)
  unfolding judged_section section_fields verdicts verdict_at
  section-verdict sec at = rw (verdicts-parts (row_fields sec s at) (rows_in s at) (λ i. i)) (ap (λ x. whole 2 s at and_then x) (up_cong (rows_in s at) _ _ (λ i l. row-verdict sec at i)))

  end-verdict : judged_section (limits_of o C) Ncc s (ncc_pos s) and_then require (leb (length s) (end_pos s)) Excess (end_pos s)
      ≡ judged_section (limits_of o C) Ncc s (ncc_pos s) and_then verdicts o C s (EndOfFile (end_pos s) ∷ [])
  unfolding verdicts verdict_at
  end-verdict =
      then_same (judged_section (limits_of o C) Ncc s (ncc_pos s)) (require (leb (length s) (end_pos s)) Excess (end_pos s)) _
      (λ e. let h = section-end (limits_of o C) Ncc s (ncc_pos s) e in rw (le-leb (end_pos s + 0) (length s) (omega arith), then_accepted))

  pub judged-verdicts : judged (limits_of o C) s ≡ verdicts o C s (fields_of s)
  unfolding judged fields_of
  judged-verdicts =
      rw (end-verdict, verdicts-append, verdicts-append, verdicts-append, verdicts-append, section-verdict Vesting, section-verdict Meter, section-verdict Residual, section-verdict Ncc)
