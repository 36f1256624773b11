-- The rows of one section among all rows, and those of a file by section. Assumes nothing.
use Rattle.std.specs.Prelude.{◌≡◌, Bool, true, false, cond, List, [], ◌∷◌, ◌++◌, ℕ, zero, suc, T}
use Rattle.std.proofs.Math.Path.{refl}
use Rattle.std.proofs.Common.{sym, ap, ◌∙◌, subst, append-nil}
use Rattle.integer.specs.Below.{tabulate, Each}
use Rattle.rulebook.specs.declared.Section.{Section}
use Rattle.rulebook.specs.declared.Section.TheVariants.{Vesting, Meter, Residual, Ncc}
use Rattle.rulebook.specs.Sections.{same_section}
use Rattle.rulebook.specs.File.{rows_in, section_rows, file_rows, meter_pos, residual_pos, ncc_pos}
use Rattle.rulebook.specs.NamedRows.{NamedRow, named_rows}
use Rattle.rulebook.specs.Encoding.{rows_of}
use Rattle.rulebook.specs.Proper.{same_key, Once}
use Rattle.rulebook.specs.FileTable.{row_of}
use Rattle.rulebook.proofs.laws.TestLaws.{T-path}
use Rattle.rulebook.proofs.laws.SectionsLaws.{same_section_lem, section-self}
use Rattle.rulebook.proofs.laws.ListLaws.{map-tabulate, map-append}

-- ---- rows_of

pub same_self : (sec : Section) → same_section sec sec ≡ true
same_self sec = T-path (same_section sec sec) (section-self sec)

of_one : (sec : Section) (r : NamedRow) (rs : List NamedRow) (b : Bool) → same_section sec r.section ≡ b → rows_of sec (r ∷ rs) ≡ cond b (r ∷ rows_of sec rs) (rows_of sec rs)
unfolding rows_of
of_one sec r rs b e = ap (λ c. cond c (r ∷ rows_of sec rs) (rows_of sec rs)) e

of_append : (sec : Section) (xs ys : List NamedRow) → rows_of sec (xs ++ ys) ≡ rows_of sec xs ++ rows_of sec ys
unfolding rows_of
of_append sec [] ys = refl
of_append sec (x ∷ xs) ys = rw (of_append sec xs ys) (by (same_section sec x.section))
  where
    by : (b : Bool) → cond b (x ∷ (rows_of sec xs ++ rows_of sec ys)) (rows_of sec xs ++ rows_of sec ys) ≡ cond b (x ∷ rows_of sec xs) (rows_of sec xs) ++ rows_of sec ys
    by true = refl
    by false = refl

of_table : (sec : Section) (b : Bool) (n : ℕ) (f : ℕ → NamedRow) → ((i : ℕ) → same_section sec (f i).section ≡ b) → rows_of sec (tabulate n f) ≡ cond b (tabulate n f) []
unfolding tabulate
of_table sec true zero f h = unfold rows_of in refl
of_table sec false zero f h = unfold rows_of in refl
of_table sec true (suc n) f h = of_one sec (f 0) _ true (h 0) ∙ ap (λ l. f 0 ∷ l) (of_table sec true n (λ k. f (suc k)) (λ i. h (suc i)))
of_table sec false (suc n) f h = of_one sec (f 0) _ false (h 0) ∙ of_table sec false n (λ k. f (suc k)) (λ i. h (suc i))

-- what holds of each row holds of each of a section's
pub of_each : (P : NamedRow → Type 0) (sec : Section) (rs : List NamedRow) → Each P rs → Each P (rows_of sec rs)
unfolding rows_of
of_each P sec [] e = tt
of_each P sec (r ∷ rs) e = by (same_section sec r.section) (of_each P sec rs e.1)
  where
    by : (b : Bool) → Each P (rows_of sec rs) → Each P (cond b (r ∷ rows_of sec rs) (rows_of sec rs))
    by true f = (e.0, f)
    by false f = f

pub of_once : (sec : Section) (rs : List NamedRow) → Once rs → Once (rows_of sec rs)
unfolding Once rows_of
of_once sec [] o = tt
of_once sec (r ∷ rs) o = by (same_section sec r.section) (of_each (λ q. same_key r q ≡ false) sec rs o.0) (of_once sec rs o.1)
  where
    by : (b : Bool) → Each (λ q. same_key r q ≡ false) (rows_of sec rs) → Once (rows_of sec rs) → Once (cond b (r ∷ rows_of sec rs) (rows_of sec rs))
    by true e f = (e, f)
    by false e f = f

pub of_own : (sec : Section) (rs : List NamedRow) → Each (λ r. r.section ≡ sec) (rows_of sec rs)
unfolding rows_of
of_own sec [] = tt
of_own sec (r ∷ rs) = by (same_section sec r.section) (λ e. sym (same_section_lem sec r.section (subst T (sym e) tt))) (of_own sec rs)
  where
    by : (b : Bool) → (b ≡ true → r.section ≡ sec) → Each (λ r. r.section ≡ sec) (rows_of sec rs)
        → Each (λ r. r.section ≡ sec) (cond b (r ∷ rows_of sec rs) (rows_of sec rs))
    by true h e = (h refl, e)
    by false h e = e

-- ---- The rows of a file

-- those of section `sec` at `at`
unfoldable pub section_of : List ℕ → Section → ℕ → List NamedRow
section_of s sec at = tabulate (rows_in s at) (row_of sec s at)

pub rows_are : (s : List ℕ) → named_rows s ≡ section_of s Vesting 0 ++ (section_of s Meter (meter_pos s) ++ (section_of s Residual (residual_pos s) ++ section_of s Ncc (ncc_pos s)))
unfolding named_rows file_rows section_rows section_of
rows_are s = simp (map-append, map-tabulate)

of_part : (s : List ℕ) (sec other : Section) (at : ℕ) → rows_of sec (section_of s other at) ≡ cond (same_section sec other) (section_of s other at) []
unfolding section_of
of_part s sec other at = of_table sec (same_section sec other) (rows_in s at) _ (λ i. refl)

pub of_rows : (s : List ℕ)
    → (rows_of Vesting (named_rows s) ≡ section_of s Vesting 0)
    × (rows_of Meter (named_rows s) ≡ section_of s Meter (meter_pos s))
    × (rows_of Residual (named_rows s) ≡ section_of s Residual (residual_pos s))
    × (rows_of Ncc (named_rows s) ≡ section_of s Ncc (ncc_pos s))
of_rows s = rw rows_are (simp (of_append, of_part, append-nil), simp (of_append, of_part, append-nil), simp (of_append, of_part, append-nil), simp (of_append, of_part))
