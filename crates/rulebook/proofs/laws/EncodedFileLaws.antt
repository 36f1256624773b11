-- The file of proper rows is accepted, and says those rows. Rests on EncodedLaws, row after row. Assumes nothing.
use Rattle.std.specs.Prelude.{◌≡◌, refl, false, ◌&&◌, eqb, pos, get_or, drop, Ok}
use Rattle.std.proofs.Math.Path.{sym, ap, subst}
use Rattle.std.proofs.Common.{◌∙◌, not-suc-le-zero, length-drop, drop-cons}
use mathlib.Core.List.{List, [], ◌∷◌, ◌++◌, flat_map, append_assoc, append-nil}
use Prim.Native.Nat.{ℕ, zero, suc, ◌+◌, ◌-◌, ◌≤◌, ◌<◌}
use native.Mathlib.Omega.{arith}
use borrow.Author.Tests.{le-leb}
use Rattle.std.proofs.Math.ListN.{length}
use Rattle.std.proofs.Math.Seq.{drop-length}
use Rattle.integer.specs.Below.{tabulate, Each}
use Rattle.integer.proofs.laws.CountLaws.{any_none}
use Rattle.rulebook.specs.declared.Section.{Section}
use Rattle.rulebook.specs.declared.Section.TheVariants.{Vesting, Meter, Residual, Ncc}
use Rattle.rulebook.specs.declared.Terms.{Terms}
use Rattle.rulebook.specs.Terms.{InTerms}
use Rattle.rulebook.specs.File.{account_at, day_at, row_pos, section_end, meter_pos, residual_pos, ncc_pos, end_pos}
use Rattle.rulebook.specs.Judging.{limits_of, given, row_after, judged_row, judged_section, judged}
use Rattle.rulebook.specs.NamedRows.{NamedRow, named_rows}
use Rattle.rulebook.specs.Encoding.{bytes, row_bytes, rows_of, section_bytes, encoded}
use Rattle.rulebook.specs.Proper.{Proper, same_key, Once, ProperRows, Alike, AllAlike}
use Rattle.rulebook.proofs.laws.ListLaws.{each_at}
use Rattle.rulebook.proofs.laws.VerdictLaws.{up_all}
use Rattle.rulebook.proofs.laws.PositionLaws.{pos-zero, pos-suc}
use Rattle.rulebook.proofs.laws.SectionRowsLaws.{of_each, of_once, of_own, same_self, section_of, rows_are}
use Rattle.rulebook.proofs.laws.FromLaws.{From, from_is, from_two}
use Rattle.rulebook.proofs.laws.EncodedLaws.{RowRead, row_read}

-- ---- Row i of some rows

absent : NamedRow
absent = record { section = Vesting; account = 0; day = 0; count = 0; figure = λ h g. pos 0 }

abbrev nth : List NamedRow → ℕ → NamedRow
nth rs i = get_or rs i absent

once-at : (rs : List NamedRow) → Once rs → (j i : ℕ) → j < i → i < length rs → same_key (nth rs j) (nth rs i) ≡ false
unfolding Once
once-at [] o j i l h = absurd (not-suc-le-zero h)
once-at (r ∷ rs) o zero zero l h = absurd (not-suc-le-zero l)
once-at (r ∷ rs) o zero (suc i) l h = each_at (λ q. same_key r q ≡ false) rs absent o.0 i (omega arith)
once-at (r ∷ rs) o (suc j) zero l h = absurd (not-suc-le-zero l)
once-at (r ∷ rs) o (suc j) (suc i) l h = once-at rs o.1 j i (omega arith) (omega arith)

not_given : (sec : Section) (s : List ℕ) (first i a d : ℕ)
    → ((j : ℕ) → j < i → eqb (account_at sec s (row_pos sec s first j)) a && eqb (day_at sec s (row_pos sec s first j)) d ≡ false)
    → given sec s first i a d ≡ false
unfolding given
not_given sec s first i a d h = any_none i _ h

alike-table : (rs : List NamedRow) (f : ℕ → NamedRow) → ((i : ℕ) → i < length rs → Alike (f i) (nth rs i)) → AllAlike (tabulate (length rs) f) rs
unfolding AllAlike tabulate
alike-table [] f h = tt
alike-table (r ∷ rs) f h = (h 0 (omega arith), alike-table rs (λ k. f (suc k)) (λ i l. h (suc i) (omega arith)))

alike-append : (a b c d : List NamedRow) → AllAlike a b → AllAlike c d → AllAlike (a ++ c) (b ++ d)
unfolding AllAlike
alike-append [] [] c d e f = f
alike-append [] (r ∷ b) c d e f = absurd e
alike-append (q ∷ a) [] c d e f = absurd e
alike-append (q ∷ a) (r ∷ b) c d e f = (e.0, alike-append a b c d e.1 f)

-- ---- A section

module _ (o : Terms) (terms : InTerms o) (C : ℕ) (s : List ℕ) (sec : Section) (rs : List NamedRow)
    (proper : Each (Proper o C) rs) (own : Each (λ r. r.section ≡ sec) rs) (once : Once rs) (xs : List ℕ) where
  module _ (first : ℕ) where
    row_one : (i : ℕ) → i < length rs → From s (row_pos sec s first i) (flat_map row_bytes (drop i rs) ++ xs)
        → RowRead o C s (row_pos sec s first i) sec (nth rs i) (flat_map row_bytes (drop (suc i) rs) ++ xs)
    unfolding flat_map
    row_one i l f =
        subst (λ sc. RowRead o C s (row_pos sec s first i) sc (nth rs i) (flat_map row_bytes (drop (suc i) rs) ++ xs)) (each_at (λ r. r.section ≡ sec) rs absent own i l)
        (row_read o terms C s (row_pos sec s first i) (nth rs i) (each_at (Proper o C) rs absent proper i l) _
        (from_is (ap (λ l. flat_map row_bytes l ++ xs) (drop-cons rs i absent l) ∙ append_assoc (row_bytes (nth rs i)) _ xs) f))

    rows-from : From s first (flat_map row_bytes rs ++ xs) → (i : ℕ) → i ≤ length rs → From s (row_pos sec s first i) (flat_map row_bytes (drop i rs) ++ xs)
    rows-from f zero l = rw pos-zero f
    rows-from f (suc i) l = rw pos-suc (row_one i (omega arith) (rows-from f i (omega arith))).next

    module _ (f : From s first (flat_map row_bytes rs ++ xs)) where
      row_at : (i : ℕ) → i < length rs → RowRead o C s (row_pos sec s first i) sec (nth rs i) (flat_map row_bytes (drop (suc i) rs) ++ xs)
      row_at i l = row_one i l (rows-from f i (omega arith))

      row_new : (i : ℕ) → i < length rs → given sec s first i (account_at sec s (row_pos sec s first i)) (day_at sec s (row_pos sec s first i)) ≡ false
      row_new i l =
          not_given sec s first i _ _
          (λ j h.
          let m : j < length rs = omega arith in
          let a = (row_at i l).alike in
          let b = (row_at j m).alike in
          let k = once-at rs once j i h l in
          let c = each_at (λ r. r.section ≡ sec) rs absent own i l in
          let d = each_at (λ r. r.section ≡ sec) rs absent own j m in
          rw (a.account, a.day, b.account, b.day) (rw (c, d, same_self sec) at k))

      row-accepted : (i : ℕ) → i < length rs → judged_row (limits_of o C) sec s first i ≡ (Ok tt)
      unfolding judged_row row_after
      row-accepted i l = let r = row_at i l in rw (row_new i l, r.keyed, r.rested)

  section-read : (at : ℕ) → length rs ≤ 65535 → From s at (section_bytes rs ++ xs)
      → (judged_section (limits_of o C) sec s at ≡ (Ok tt)) × AllAlike (section_of s sec at) rs × From s (section_end sec s at) xs
  unfolding section_bytes judged_section section_end section_of flat_map
  section-read at few f =
      let c = from_two s (length rs) at (flat_map row_bytes rs ++ xs) (omega arith) (from_is (append_assoc (bytes 2 (length rs)) _ xs) f) in (
        rw (le-leb (at + 2) (length s) c.1.inside, c.0) (up_all (length rs) _ (row-accepted (at + 2) c.1)),
        rw c.0 (alike-table rs _ (λ i l. (row_at (at + 2) c.1 i l).alike)),
        rw c.0 (from_is (ap (λ l. flat_map row_bytes l ++ xs) (drop-length rs)) (rows-from (at + 2) c.1 (length rs) (omega arith))),
      )

-- ---- The file

module _ (o : Terms) (terms : InTerms o) (C : ℕ) (rows : List NamedRow) (p : ProperRows o C rows) where
  part-read : (sec : Section) (at : ℕ) (xs : List ℕ) → From (encoded rows) at (section_bytes (rows_of sec rows) ++ xs)
      → (judged_section (limits_of o C) sec (encoded rows) at ≡ (Ok tt)) × AllAlike (section_of (encoded rows) sec at) (rows_of sec rows)
      × From (encoded rows) (section_end sec (encoded rows) at) xs
  part-read sec at xs f =
      section-read o terms C (encoded rows) sec (rows_of sec rows) (of_each (Proper o C) sec rows p.each) (of_own sec rows) (of_once sec rows p.once) xs at (p.few sec) f

  pub encoded-accepted : (judged (limits_of o C) (encoded rows) ≡ (Ok tt)) × AllAlike (named_rows (encoded rows)) rows
  unfolding judged
  encoded-accepted =
      let s : List ℕ = encoded rows in
      let a = part-read Vesting 0 _ start in
      let b = part-read Meter (meter_pos s) _ a.2 in
      let c = part-read Residual (residual_pos s) _ b.2 in
      let d = part-read Ncc (ncc_pos s) [] (from_is (sym (append-nil _)) c.2) in
      let e : length s - end_pos s ≡ 0 = sym (length-drop (end_pos s) s) ∙ ap length d.2.left in (
        rw (a.0, b.0, c.0, d.0, le-leb (length s) (end_pos s) (omega arith)),
        rw (rows_are s) (subst (AllAlike _) (sym p.order) (alike-append _ _ _ _ a.1 (alike-append _ _ _ _ b.1 (alike-append _ _ _ _ c.1 d.1)))),
      )
    where
      start : From (encoded rows) 0 (section_bytes (rows_of Vesting rows) ++ (section_bytes (rows_of Meter rows) ++ (section_bytes (rows_of Residual rows) ++ section_bytes (rows_of Ncc rows))))
      start = record { left = unfold encoded in refl; inside = omega arith }
