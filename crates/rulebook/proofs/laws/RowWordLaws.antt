-- A row's words in the layout's tables: where each stands, no two at one place, and every other word padding. By computation on the tables.
-- Assumes nothing.
use Rattle.std.specs.Prelude.{◌≡◌, refl, ◌⊎◌, Bool, true, false, not, ◌&&◌, ◌||◌, List, ℕ, zero, suc, ◌<◌, T, ltb, eqb, length, get_or, take}
use Rattle.std.proofs.Common.{sym, ap, ◌∙◌, subst, inl, inr, arith, ltb→lt, eqb→eq}
use Rattle.integer.specs.Below.{fold, all}
use Rattle.rulebook.specs.declared.Section.{Section}
use Rattle.rulebook.specs.declared.Section.TheVariants.{Vesting, Meter, Residual, Ncc}
use Rattle.rulebook.specs.Sections.{same_section, Figure, BVQ, BVP, TVQ, TVP, MEP, IEQ, UEGQ, MQ, RVP1, RVP2, NccLoad, figure_section}
use Rattle.rulebook.specs.Layout.{Word, flag, figure, padding, is_padding, those, of_section, table_of, account_table, interval_table, width, word_name, flag_index, figure_index, table_place}
use Rattle.rulebook.proofs.laws.TestLaws.{and_left, and_right, or_cases, all_at}
use Rattle.rulebook.proofs.laws.SectionsLaws.{same_section_lem}

-- ---- Back from a place of a table

-- the section whose word it is
abbrev word_section : Word → Section
word_section (flag s) = s
word_section (figure g) = figure_section g
word_section padding = Ncc

-- how many of the section's words stand before place q
abbrev rank : Section → ℕ → ℕ
rank s q = length (those (of_section s) (take q (table_of s)))

abbrev word_at : List Word → ℕ → Word
word_at table q = get_or table q padding

-- ---- Word j of a row

unfoldable placed : Section → ℕ → Bool
placed s j = ltb (table_place s j) (length (table_of s)) && same_section (word_section (word_at (table_of s) (table_place s j))) s
    && eqb (rank s (table_place s j)) j && not (is_padding (word_at (table_of s) (table_place s j)))

all_placed : (s : Section) → T (all (width s) (placed s))
unfolding fold placed
all_placed Vesting = tt
all_placed Meter = tt
all_placed Residual = tt
all_placed Ncc = tt

pub record RowWord (s : Section) (j : ℕ) : Type 0 where
  pub inside : table_place s j < length (table_of s)
  pub section : word_section (word_at (table_of s) (table_place s j)) ≡ s
  pub before : rank s (table_place s j) ≡ j
  pub named : T (not (is_padding (word_at (table_of s) (table_place s j))))

pub row_word_lem : (s : Section) (j : ℕ) → j < width s → RowWord s j
unfolding placed
row_word_lem s j h =
    let t = all_at (width s) (placed s) (all_placed s) j h in
    record {
      inside = ltb→lt (table_place s j) (length (table_of s)) (search (and_left, and_right));
      section = same_section_lem (word_section (word_at (table_of s) (table_place s j))) s (search (and_left, and_right));
      before = eqb→eq (rank s (table_place s j)) j (search (and_left, and_right));
      named = search (and_left, and_right);
    }

-- two words of one table at one place are one word of one section's rows
pub places-apart : (s s' : Section) (j j' : ℕ) → table_of s ≡ table_of s' → j < width s → j' < width s' → table_place s j ≡ table_place s' j' → (s ≡ s') × (j ≡ j')
places-apart s s' j j' t h h' e =
    let x = row_word_lem s j h in
    let x' = row_word_lem s' j' h' in
    let q : s ≡ s' = sym x.section ∙ ap (λ (table : List Word). word_section (word_at table (table_place s j))) t
    ∙ ap (λ (n : ℕ). word_section (word_at (table_of s') n)) e ∙ x'.section in
    (q, sym x.before ∙ ap (rank s) e ∙ ap (λ (y : Section). rank y (table_place s' j')) q ∙ x'.before)

-- a row's word is none of its table's padding ones
pub not_padding : (s : Section) (j q : ℕ) → j < width s → table_place s j ≡ q → T (is_padding (word_at (table_of s) q)) → ⊥
not_padding s j q h e t = go (is_padding (word_at (table_of s) (table_place s j))) (row_word_lem s j h).named (subst (λ (n : ℕ). T (is_padding (word_at (table_of s) n))) (sym e) t)
  where
    go : (b : Bool) → T (not b) → T b → ⊥
    go true x y = x
    go false x y = y

-- ---- Every place

-- a word of a row: its section, which of the row's words it is
pub record Named (table : List Word) (q : ℕ) : Type 0 where
  pub section : Section
  pub word : ℕ
  pub own : table_of section ≡ table
  pub inside : word < width section
  pub place : table_place section word ≡ q

unfoldable found : Section → ℕ → Bool
found s q = ltb (rank s q) (width s) && eqb (table_place s (rank s q)) q

unfoldable account_named : ℕ → Bool
account_named q = is_padding (word_at account_table q) || not (same_section (word_section (word_at account_table q)) Ncc) && found (word_section (word_at account_table q)) q

unfoldable interval_named : ℕ → Bool
interval_named q = is_padding (word_at interval_table q) || found Ncc q

account-named : T (all (length account_table) account_named)
unfolding fold account_named found
account-named = tt

interval-named : T (all (length interval_table) interval_named)
unfolding fold interval_named found
interval-named = tt

named : (s : Section) (table : List Word) (q : ℕ) → table_of s ≡ table → T (found s q) → Named table q
unfolding found
named s table q e t = record {
  section = s;
  word = rank s q;
  own = e;
  inside = ltb→lt (rank s q) (width s) (and_left (ltb (rank s q) (width s)) (eqb (table_place s (rank s q)) q) t);
  place = eqb→eq (table_place s (rank s q)) q (search (and_left, and_right));
}

accounts-own : (s : Section) → T (not (same_section s Ncc)) → table_of s ≡ account_table
accounts-own Vesting t = refl
accounts-own Meter t = refl
accounts-own Residual t = refl
accounts-own Ncc t = absurd t

pub account-cover : (q : ℕ) → q < length account_table → T (is_padding (word_at account_table q)) ⊎ Named account_table q
unfolding account_named
account-cover q h =
    let s : Section = word_section (word_at account_table q) in
    or_cases (is_padding (word_at account_table q)) (not (same_section s Ncc) && found s q) (all_at (length account_table) account_named account-named q h) inl
    (λ x. inr (named s account_table q (accounts-own s (and_left (not (same_section s Ncc)) (found s q) x)) (and_right (not (same_section s Ncc)) (found s q) x)))

pub interval-cover : (q : ℕ) → q < length interval_table → T (is_padding (word_at interval_table q)) ⊎ Named interval_table q
unfolding interval_named
interval-cover q h =
    or_cases (is_padding (word_at interval_table q)) (found Ncc q) (all_at (length interval_table) interval_named interval-named q h) inl
    (λ x. inr (named Ncc interval_table q refl x))

-- ---- Flags and figures

pub flag-inside : (s : Section) → flag_index s < width s
flag-inside Vesting = omega arith
flag-inside Meter = omega arith
flag-inside Residual = omega arith
flag-inside Ncc = omega arith

pub flag-named : (s : Section) → word_name s (flag_index s) ≡ flag s
flag-named Vesting = refl
flag-named Meter = refl
flag-named Residual = refl
flag-named Ncc = refl

-- a figure that a row can have
abbrev pub Usable : Figure → Type 0
Usable BVQ = Unit {0}
Usable BVP = Unit {0}
Usable (TVQ t) = t < 3
Usable (TVP t) = t < 3
Usable (MEP f) = f < 4
Usable (IEQ f) = f < 4
Usable UEGQ = Unit {0}
Usable MQ = Unit {0}
Usable RVP1 = Unit {0}
Usable RVP2 = Unit {0}
Usable NccLoad = Unit {0}

pub record FigureWord (g : Figure) : Type 0 where
  pub inside : figure_index g < width (figure_section g)
  pub named : word_name (figure_section g) (figure_index g) ≡ figure g

pub figure-word : (g : Figure) → Usable g → FigureWord g
figure-word BVQ h = record { inside = omega arith; named = refl }
figure-word BVP h = record { inside = omega arith; named = refl }
figure-word (TVQ zero) h = record { inside = omega arith; named = refl }
figure-word (TVQ (suc zero)) h = record { inside = omega arith; named = refl }
figure-word (TVQ (suc (suc zero))) h = record { inside = omega arith; named = refl }
figure-word (TVQ (suc (suc (suc t)))) h = absurd (omega arith)
figure-word (TVP zero) h = record { inside = omega arith; named = refl }
figure-word (TVP (suc zero)) h = record { inside = omega arith; named = refl }
figure-word (TVP (suc (suc zero))) h = record { inside = omega arith; named = refl }
figure-word (TVP (suc (suc (suc t)))) h = absurd (omega arith)
figure-word (MEP zero) h = record { inside = omega arith; named = refl }
figure-word (MEP (suc zero)) h = record { inside = omega arith; named = refl }
figure-word (MEP (suc (suc zero))) h = record { inside = omega arith; named = refl }
figure-word (MEP (suc (suc (suc zero)))) h = record { inside = omega arith; named = refl }
figure-word (MEP (suc (suc (suc (suc f))))) h = absurd (omega arith)
figure-word (IEQ zero) h = record { inside = omega arith; named = refl }
figure-word (IEQ (suc zero)) h = record { inside = omega arith; named = refl }
figure-word (IEQ (suc (suc zero))) h = record { inside = omega arith; named = refl }
figure-word (IEQ (suc (suc (suc zero)))) h = record { inside = omega arith; named = refl }
figure-word (IEQ (suc (suc (suc (suc f))))) h = absurd (omega arith)
figure-word UEGQ h = record { inside = omega arith; named = refl }
figure-word MQ h = record { inside = omega arith; named = refl }
figure-word RVP1 h = record { inside = omega arith; named = refl }
figure-word RVP2 h = record { inside = omega arith; named = refl }
figure-word NccLoad h = record { inside = omega arith; named = refl }
