-- The rows in force are in range, of days not past the window, and complete for closed days; a book that holds such rows is well formed. Assumes nothing.
use Rattle.std.specs.Prelude.{◌≡◌, refl, ◌⊎◌, Bool, true, false, cond, not, ℕ, zero, suc, ◌+◌, ◌*◌, ◌≤◌, ◌<◌, ℤ, pos, T, leb, ltb, Option, Some, None}
use Rattle.std.proofs.Common.{sym, ap, ◌∙◌, subst, inl, inr, arith, leb→le, le→leb, ltb→lt}
use Rattle.std.proofs.Math.Dec.{not_T}
use Rattle.integer.specs.Below.{all, any}
use Rattle.integer.specs.Words.{word}
use Rattle.rulebook.specs.declared.Section.{Section}
use Rattle.rulebook.specs.declared.Section.TheVariants.{Vesting, Meter, Residual, Ncc}
use Rattle.rulebook.specs.declared.Kind.{Kind}
use Rattle.rulebook.specs.declared.Kind.TheVariants.{Quantity, Price, Injection, Load}
use Rattle.rulebook.specs.Units.{in_range}
use Rattle.rulebook.specs.Sections.{kind_of, per_interval, least_count, most_count, value_in_range, same_section, Figure, figure_section, figure_place}
use Rattle.rulebook.specs.Layout.{width, present, Word, flag, figure, padding, flag_index, figure_index, word_name}
use Rattle.rulebook.specs.WellFormed.{is_zero, row_fits, row_blank, row_counts, word_fits}
use Rattle.rulebook.specs.File.{Row, number_of, figure_of}
use Rattle.rulebook.specs.Submit.{entry, word_of}
use Rattle.rulebook.specs.Ledger.{entry_of, RowRanged}
use Rattle.rulebook.proofs.laws.TestLaws.{or_left, or_right, all_yes, any-yes, between-yes, cond_yes, and_both, and_right, T-path}
use Rattle.rulebook.proofs.laws.SectionsLaws.{section-self}
use Rattle.rulebook.proofs.laws.RowWordLaws.{Usable, figure-word, flag-named}

-- ---- a row's words at an interval

-- a row's own figure is the number at its place
pub own-figure : (r : Row) (i : ℕ) (g : Figure) → r.section ≡ figure_section g → figure_of r i g ≡ number_of r i (figure_place g)
unfolding figure_of
own-figure r i g e = rw (e, T-path (same_section (figure_section g) (figure_section g)) (section-self (figure_section g)))

pub entry-figure : (r : Row) (i : ℕ) (g : Figure) → Usable g → r.section ≡ figure_section g → entry r i (figure_index g) ≡ figure_of r i g
unfolding entry
entry-figure r i g u e = rw (e, (figure-word g u).named)

pub entry-flag : (r : Row) (i : ℕ) → entry r i (flag_index r.section) ≡ pos (present r.section r.count)
unfolding entry
entry-flag r i = rw (flag-named r.section)

pub zero-kind : (k : Kind) → T (in_range k (pos 0))
zero-kind Quantity = tt
zero-kind Price = tt
zero-kind Injection = tt
zero-kind Load = tt

pub zero-ranged : (s : Section) (k : ℕ) → T (value_in_range s k (pos 0))
zero-ranged s k = zero-kind (kind_of s k)

pub number-ranged : (r : Row) → RowRanged r → (i k : ℕ) → i < 48 → T (value_in_range r.section k (number_of r i k))
unfolding number_of
number-ranged r h i k hi = go (ltb k (per_interval r.section r.count)) refl
  where
    go : (b : Bool) → ltb k (per_interval r.section r.count) ≡ b
        → T (value_in_range r.section k (cond b (word r.numbers (i * per_interval r.section r.count + k)) (pos 0)))
    go true e = h.numbers i k hi (ltb→lt k _ (subst T (sym e) tt))
    go false e = zero-ranged r.section k

number-none : (r : Row) (i k : ℕ) → T (not (ltb k (per_interval r.section r.count))) → number_of r i k ≡ pos 0
unfolding number_of
number-none r i k t = go (ltb k (per_interval r.section r.count)) t
  where
    go : (b : Bool) → T (not b) → cond b (word r.numbers (i * per_interval r.section r.count + k)) (pos 0) ≡ pos 0
    go true x = absurd x
    go false x = refl

-- the words of an interval, where a row is absent and where one is there
pub absent-fits : (s : Section) (f : ℕ → ℤ) → ((j : ℕ) → j < width s → f j ≡ pos 0) → T (row_fits s f)
unfolding row_fits row_blank
absent-fits s f h = or_left (row_blank s f) (any (suc (most_count s)) (row_counts s f)) (all_yes (width s) (λ j. is_zero (f j)) (λ j hj. rw (h j hj) tt))

-- a figure of a row is in range where the row has it, and zero where not
figure-fits : (r : Row) → RowRanged r → (i : ℕ) → i < 48 → (g : Figure)
    → T (cond (ltb (figure_place g) (per_interval r.section r.count)) (value_in_range r.section (figure_place g) (figure_of r i g)) (is_zero (figure_of r i g)))
unfolding figure_of
figure-fits r h i hi g = go (same_section r.section (figure_section g))
  where
    c : ℕ
    c = per_interval r.section r.count

    go : (b : Bool) → T (cond (ltb (figure_place g) (per_interval r.section r.count)) (value_in_range r.section (figure_place g) (cond b (number_of r i (figure_place g)) (pos 0)))
        (is_zero (cond b (number_of r i (figure_place g)) (pos 0))))
    go true = cond_yes (ltb (figure_place g) (per_interval r.section r.count)) (value_in_range r.section (figure_place g) (number_of r i (figure_place g))) (is_zero (number_of r i (figure_place g)))
        (λ t. number-ranged r h i (figure_place g) hi) (λ t. rw (number-none r i (figure_place g) t) tt)
    go false = cond_yes (ltb (figure_place g) (per_interval r.section r.count)) (value_in_range r.section (figure_place g) (pos 0)) (is_zero (pos 0))
        (λ t. zero-ranged r.section (figure_place g)) (λ t. tt)

word_fits_lem : (r : Row) → RowRanged r → (i : ℕ) → i < 48 → (n : Word) → T (word_fits r.section r.count n (word_of r i n))
word_fits_lem r h i hi (flag s) = between-yes _ _ (present r.section r.count) (omega arith) (omega arith)
word_fits_lem r h i hi (figure g) = figure-fits r h i hi g
word_fits_lem r h i hi padding = tt

pub there-fits : (r : Row) → RowRanged r → (f : ℕ → ℤ) (i : ℕ) → i < 48 → ((j : ℕ) → j < width r.section → f j ≡ entry r i j) → T (row_fits r.section f)
unfolding row_fits row_counts entry
there-fits r h f i hi e =
    let s : Section = r.section in
    let c : ℕ = r.count in
    or_right (row_blank s f) (any (suc (most_count s)) (row_counts s f)) (any-yes (suc (most_count s)) (row_counts s f) c (omega (arith, h.most))
    (and_both (leb (least_count s) c) (all (width s) (λ j. word_fits s c (word_name s j) (f j))) (le→leb _ _ h.least)
    (all_yes (width s) (λ j. word_fits s c (word_name s j) (f j)) (λ j hj. rw (e j hj) (word_fits_lem r h i hi (word_name s j))))))

pub row_fits_lem : (s : Section) (x : Option Row) → ((r : Row) → x ≡ Some r → (r.section ≡ s) × RowRanged r) → (f : ℕ → ℤ) (i : ℕ) → i < 48
    → ((j : ℕ) → j < width s → f j ≡ entry_of x i j) → T (row_fits s f)
row_fits_lem s None h f i hi e = absent-fits s f e
row_fits_lem s (Some r) h f i hi e =
    let q = h r refl in
    subst (λ (t : Section). T (row_fits t f)) q.0 (there-fits r q.1 f i hi (subst (λ (t : Section). (j : ℕ) → j < width t → f j ≡ entry r i j) (sym q.0) e))

pub present-more : (s : Section) (c : ℕ) → least_count s ≤ c → (n : ℕ) × (present s c ≡ suc n)
present-more Vesting c h = (c, omega arith)
present-more Meter zero h = absurd (omega arith)
present-more Meter (suc c) h = (c, refl)
present-more Residual c h = (0, refl)
present-more Ncc c h = (0, refl)

pub none_or : {A : Type 0} (x : Option A) → (x ≡ None) ⊎ ((r : A) × (x ≡ Some r))
none_or None = inl refl
none_or (Some r) = inr (r, refl)

pub flag-more : (s : Section) (i : ℕ) (r : Row) → r.section ≡ s → RowRanged r → (n : ℕ) × (entry r i (flag_index s) ≡ pos (suc n))
flag-more s i r e h =
    let x = present-more r.section r.count h.least in
    (x.0, subst (λ (y : Section). entry r i (flag_index y) ≡ pos (suc x.0)) e (entry-flag r i ∙ ap pos x.1))

pub nonzero : {z : ℤ} {n : ℕ} → z ≡ pos (suc n) → T (not (is_zero z))
nonzero {z} {n} e = rw e (not_T (is_zero (pos (suc n))) (λ x. not_zero (leb→le (suc n) 0 (and_right (leb 0 (suc n)) (leb (suc n) 0) x))))
  where
    not_zero : suc n ≤ 0 → ⊥
    not_zero h = omega arith
