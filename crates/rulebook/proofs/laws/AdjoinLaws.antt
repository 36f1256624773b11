-- The fields of a file stand end to end. Assumes nothing.
use Rattle.std.specs.Prelude.{◌≡◌}
use Rattle.std.proofs.Math.Path.{refl}
use Rattle.std.proofs.Common.{subst, suc-mul}
use mathlib.Core.List.{List, [], ◌∷◌, ◌++◌, flat_map}
use Prim.Native.Nat.{ℕ, zero, suc, ◌+◌, ◌*◌, ◌<◌}
use native.Mathlib.Omega.{arith}
use Rattle.integer.specs.Below.{tabulate}
use Rattle.rulebook.specs.declared.Section.{Section}
use Rattle.rulebook.specs.declared.Section.TheVariants.{Vesting, Meter, Residual, Ncc}
use Rattle.rulebook.specs.Sections.{per_interval}
use Rattle.rulebook.specs.File.{values_pos, count_at, row_end, row_pos, rows_in, section_end, meter_pos, residual_pos, ncc_pos, end_pos}
use Rattle.rulebook.specs.NamedRows.{NamedRow}
use Rattle.rulebook.specs.FileTable.{Field, EndOfFile, start, field_bytes, row_of, heading_fields, interval_fields, row_fields, section_fields, fields_of, EndToEnd}
use Rattle.rulebook.proofs.laws.ListLaws.{map-tabulate}
use Rattle.rulebook.proofs.laws.IntervalLaws.{figure-table, is_figure}
use Rattle.rulebook.proofs.laws.PositionLaws.{pos-zero, pos-suc}

-- ---- Fields in order

ends-append : (xs ys : List Field) (a b c : ℕ) → EndToEnd a xs b → EndToEnd b ys c → EndToEnd a (xs ++ ys) c
unfolding EndToEnd
ends-append [] ys a b c p q = rw p q
ends-append (f ∷ xs) ys a b c p q = (p.0, ends-append xs ys (a + field_bytes f) b c p.1 q)

-- e 0, e 1, .. e n are the ends
ends-table : (n : ℕ) (f : ℕ → Field) (e : ℕ → ℕ) → ((i : ℕ) → i < n → (start (f i) ≡ e i) × (e i + field_bytes (f i) ≡ e (suc i))) → EndToEnd (e 0) (tabulate n f) (e n)
unfolding EndToEnd tabulate
ends-table zero f e h = refl
ends-table (suc n) f e h =
    let a = h 0 (omega arith) in
    (a.0, rw a.1 (ends-table n (λ k. f (suc k)) (λ k. e (suc k)) (λ i l. h (suc i) (omega arith))))

ends-parts : (f : ℕ → List Field) (n : ℕ) (g e : ℕ → ℕ) → ((i : ℕ) → EndToEnd (e i) (f (g i)) (e (suc i))) → EndToEnd (e 0) (flat_map f (tabulate n g)) (e n)
unfolding flat_map tabulate
ends-parts f zero g e h = unfold EndToEnd in refl
ends-parts f (suc n) g e h = ends-append (f (g 0)) _ (e 0) (e 1) (e (suc n)) (h 0) (ends-parts f n (λ k. g (suc k)) (λ k. e (suc k)) (λ i. h (suc i)))

-- ---- A row

ends-heading : (sec : Section) (rows : ℕ → NamedRow) (i p : ℕ) → EndToEnd p (heading_fields sec rows i p) (values_pos sec p)
unfolding EndToEnd heading_fields
ends-heading Vesting rows i p = (refl, (refl, (omega arith, omega arith)))
ends-heading Meter rows i p = (refl, (refl, (omega arith, omega arith)))
ends-heading Residual rows i p = (refl, (refl, omega arith))
ends-heading Ncc rows i p = (refl, omega arith)

module _ (sec : Section) (s : List ℕ) where
  -- where interval h of the row at p starts
  abbrev starts : ℕ → ℕ → ℕ
  starts p h = values_pos sec p + 4 * (h * per_interval sec (count_at sec s p))

  ends-interval : (p h : ℕ) → EndToEnd (starts p h) (interval_fields sec s p h) (starts p (suc h))
  unfolding interval_fields
  ends-interval p h =
      let n : ℕ = count_at sec s p in
      let w : ℕ = per_interval sec n in
      let z : values_pos sec p + 4 * (h * w + 0) ≡ starts p h = omega arith in
      let y : values_pos sec p + 4 * (h * w + w) ≡ starts p (suc h) = rw (suc-mul h w) (omega arith) in
      rw (figure-table sec n, map-tabulate, ← z, ← y)
      (ends-table w _ (λ k. values_pos sec p + 4 * (h * w + k)) (λ k l. let f = (is_figure sec n k l).place in (rw f, omega arith)))

  ends-row : (at i : ℕ) → EndToEnd (row_pos sec s (at + 2) i) (row_fields sec s at i) (row_pos sec s (at + 2) (suc i))
  unfolding row_fields row_end
  ends-row at i =
      let p : ℕ = row_pos sec s (at + 2) i in
      let z : starts p 0 ≡ values_pos sec p = omega arith in
      rw pos-suc
      (ends-append (heading_fields sec (row_of sec s at) i p) _ p (values_pos sec p) _ (ends-heading sec (row_of sec s at) i p)
      (subst (λ a. EndToEnd a (flat_map (interval_fields sec s p) (tabulate 48 (λ h. h))) (starts p 48)) z (ends-parts (interval_fields sec s p) 48 (λ h. h) (starts p) (ends-interval p))))

  ends-section : (at : ℕ) → EndToEnd at (section_fields sec s at) (section_end sec s at)
  unfolding section_fields section_end EndToEnd
  ends-section at = (refl, rw (pos-zero sec s (at + 2)) at (ends-parts (row_fields sec s at) (rows_in s at) (λ i. i) (row_pos sec s (at + 2)) (ends-row at)))

-- ---- The file

pub fields_adjoin : (file : List ℕ) → EndToEnd 0 (fields_of file) (end_pos file)
unfolding fields_of
fields_adjoin s =
    ends-append _ _ _ _ _ (ends-section Vesting s 0)
    (ends-append _ _ _ _ _ (ends-section Meter s (meter_pos s))
    (ends-append _ _ _ _ _ (ends-section Residual s (residual_pos s))
    (ends-append _ _ _ _ _ (ends-section Ncc s (ncc_pos s)) last)))
  where
    last : EndToEnd (end_pos s) (EndOfFile (end_pos s) ∷ []) (end_pos s)
    last = unfold EndToEnd in (refl, omega arith)
