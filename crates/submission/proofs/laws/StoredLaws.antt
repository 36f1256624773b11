-- The words that code stores of a row are the rule book's, and so are the rows of a section and of a file. Assumes nothing.
use Rattle.std.specs.Prelude.{◌≡◌, Bool, false, not, ◌&&◌, List, [], ◌∷◌, ◌++◌, ℕ, zero, suc, ◌+◌, ◌-◌, ◌*◌, ◌≤◌, ◌<◌, eqb, ℤ, cond, pos, length, take, drop}
use Rattle.std.proofs.Math.Path.{refl, fun_ext}
use Rattle.std.proofs.Common.{sym, ap, ◌∙◌}
use Rattle.std.proofs.Math.Bool.{true}
use Rattle.std.proofs.Math.Logic.{⊎_elim}
use Rattle.std.proofs.Math.Nat.{add-mul}
use native.Mathlib.Omega.{arith}
use Rattle.std.proofs.Math.Nat.{add_assoc}
use Rattle.std.proofs.Common.{get_or-drop, length-drop, take_all}
use borrow.Author.Tests.{lt-ltb, le-ltb, ltb-true, ne_eqb, not-true}
use Rattle.std.proofs.Math.Dec.{T, ltb, eqb→eq}
use Rattle.std.proofs.Math.ListN.{get_or-eq_default}
use Rattle.integer.specs.Below.{fold, all, turns, tabulate}
use Rattle.integer.proofs.laws.BelowLaws.{either, lt_or_le, turns-suc}
use Rattle.integer.specs.Words.{on_part, grid_row, grid}
use Rattle.rulebook.specs.declared.Section.{Section}
use Rattle.rulebook.specs.declared.Section.TheVariants.{Vesting, Meter, Residual, Ncc}
use Rattle.rulebook.specs.declared.Terms.{Terms}
use Rattle.rulebook.specs.Units.{intervals}
use Rattle.rulebook.specs.Shares.{most_accounts}
use Rattle.rulebook.specs.Terms.{InTerms}
use Rattle.rulebook.specs.Sections.{accounts_of, most_count, per_interval, same_section, figure_section, figure_place}
use Rattle.rulebook.specs.Layout.{Word, flag, figure, padding, present, row_table, word_name, width, flag_index, place, size, interval_size, slot, interval_word, slot_start, row_word}
use Rattle.rulebook.specs.File.{value_at, Row, row_at, account_at, day_at, count_at, values_pos, number_of, figure_of, row_pos, rows_in, section_rows, file_rows, meter_pos, residual_pos, ncc_pos}
use Rattle.rulebook.specs.Submit.{word_of, entry, row_stored, rows_stored}
use Rattle.rulebook.proofs.laws.TestLaws.{T-path, and_left, and_right, all_at}
use Rattle.rulebook.proofs.laws.FileLaws.{num-four, number_at}
use Rattle.rulebook.proofs.laws.FormLaws.{ring-pos}
use Rattle.rulebook.proofs.laws.IndexLaws.{row-run}
use Rattle.rulebook.proofs.laws.RowWordLaws.{flag-inside}
use Rattle.rulebook.proofs.laws.StoreLaws.{row-grid}
use Rattle.rulebook.proofs.laws.WordLaws.{row_word-inside}
use Rattle.submission.specs.declared.store.Form.{Form}
use Rattle.submission.specs.Stored.{form_of, number_from, value_number, word_from, row_from, first_stored, RowFits}

-- ---- The names of a row's words

-- word j of the section's rows is the flag, or the number of its turn
abbrev in_turn : Section → ℕ → Word → Bool
in_turn sec j (flag t) = eqb j (flag_index sec)
in_turn sec j (figure g) = not (eqb j (flag_index sec)) && same_section sec (figure_section g) && eqb (figure_place g) (value_number (flag_index sec) j)
in_turn sec j padding = false

unfoldable named : Section → ℕ → Bool
named sec j = in_turn sec j (word_name sec j)

all_named : (sec : Section) → T (all (width sec) (named sec))
unfolding fold named
all_named Vesting = tt
all_named Meter = tt
all_named Residual = tt
all_named Ncc = tt

-- a row has a word for its flag and one for each number
numbers-few : (sec : Section) (count : ℕ) → count ≤ most_count sec → per_interval sec count < width sec
numbers-few Vesting count h = omega arith
numbers-few Meter count h = omega arith
numbers-few Residual count h = omega arith
numbers-few Ncc count h = omega arith

-- flags are small, and so are accounts
pub flag_small : (sec : Section) (count : ℕ) → count ≤ most_count sec → present sec count ≤ 4
flag_small Vesting count h = omega arith
flag_small Meter count h = h
flag_small Residual count h = omega arith
flag_small Ncc count h = omega arith

pub accounts-few : (sec : Section) (n : ℕ) → n ≤ most_accounts → accounts_of sec n ≤ most_accounts
accounts-few Vesting n h = h
accounts-few Meter n h = h
accounts-few Residual n h = h
accounts-few Ncc n h = omega arith

-- ---- A word of a row

module _ (sec : Section) (s : List ℕ) (at i : ℕ) (hi : i < intervals) where
  abbrev count : ℕ
  count = count_at sec s at

  abbrev from : ℕ
  from = values_pos sec at + 4 * (i * per_interval sec count)

  number-from : (k : ℕ) → number_of (row_at sec s at) i k ≡ number_from (per_interval sec count) s from k
  unfolding number_from number_of
  number-from k = ⊎_elim there (λ t. rw t) (either (ltb k (per_interval sec count)))
    where
      there : ltb k (per_interval sec count) ≡ true → number_of (row_at sec s at) i k ≡ number_from (per_interval sec count) s from k
      there t =
          let e : values_pos sec at + 4 * (i * per_interval sec count + k) ≡ from + 4 * k = omega arith in
          rw (t, ← e) (rw t at (number_at sec s at i k hi (ltb-true k (per_interval sec count) t)))

  word-named : (j : ℕ) (w : Word) → T (in_turn sec j w) → word_of (row_at sec s at) i w ≡ word_from (form_of sec count) s from j
  unfolding word_from figure_of
  word-named j (flag t) h = rw (T-path (eqb j (flag_index sec)) h)
  word-named j (figure g) h =
      let p : T (not (eqb j (flag_index sec))) = search (and_left, and_right) in
      let q : T (same_section sec (figure_section g)) = search (and_left, and_right) in
      let r : T (eqb (figure_place g) (value_number (flag_index sec) j)) = search (and_left, and_right) in
      rw (T-path (same_section sec (figure_section g)) q, not-true (eqb j (flag_index sec)) (T-path (not (eqb j (flag_index sec))) p), ← eqb→eq (figure_place g) (value_number (flag_index sec) j) r)
      (number-from (figure_place g))
  word-named j padding h = absurd h

  -- past a row's words both are zero
  word-past : (j : ℕ) → count ≤ most_count sec → width sec ≤ j → pos 0 ≡ word_from (form_of sec count) s from j
  unfolding word_from number_from
  word-past j few h =
      let p = flag-inside sec in
      let n = numbers-few sec count few in
      rw (ne_eqb j (flag_index sec) (λ e. omega arith), le-ltb j (flag_index sec) (omega arith), le-ltb (j - 1) (per_interval sec count) (omega arith))

  pub word-from : (j : ℕ) → count ≤ most_count sec → entry (row_at sec s at) i j ≡ row_from (form_of sec count) s (values_pos sec at) i j
  unfolding entry row_from named
  word-from j few =
      ⊎_elim (λ h. word-named j (word_name sec j) (all_at (width sec) (named sec) (all_named sec) j h))
      (λ h. rw (get_or-eq_default (row_table sec) padding {n = j} h) (word-past j few h))
      (lt_or_le j (width sec))

-- ---- A part of the file, from a on

value-from : (s : List ℕ) (a k n : ℕ) → n ≡ a + k → value_at (drop a s) k ≡ value_at s n
unfolding value_at
value-from s a k n e = rw (
  e,
  num-four (drop a s) k,
  num-four s (a + k),
  get_or-drop a s k 0,
  get_or-drop a s (k + 1) 0,
  get_or-drop a s (k + 2) 0,
  get_or-drop a s (k + 3) 0,
  ← add_assoc a k 1,
  ← add_assoc a k 2,
  ← add_assoc a k 3,
)

number-part : (s : List ℕ) (a b c n k : ℕ) → c ≡ a + b → number_from n (drop a s) b k ≡ number_from n s c k
unfolding number_from
number-part s a b c n k e = ap (λ (z : ℤ). cond (ltb k n) z (pos 0)) (value-from s a (b + 4 * k) (c + 4 * k) (omega arith))

word-part : (form : Form) (s : List ℕ) (a b c : ℕ) → c ≡ a + b → word_from form (drop a s) b ≡ word_from form s c
unfolding word_from
word-part form s a b c e = fun_ext (λ j. ap (λ (z : ℤ). cond (eqb j form.place) form.flag z) (number-part s a b c form.values (value_number form.place j) e))

pub row-part : (form : Form) (s : List ℕ) (a : ℕ) → row_from form (drop a s) 0 ≡ row_from form s a
unfolding row_from
row-part form s a = fun_ext (λ i. word-part form s a (0 + 4 * (i * form.values)) (a + 4 * (i * form.values)) (omega arith))

-- the rest of the values, as the code lends it
pub interval-part : (form : Form) (s : List ℕ) (i : ℕ) → word_from form (take (length s - 4 * (i * form.values)) (drop (4 * (i * form.values)) s)) 0 ≡ row_from form s 0 i
unfolding row_from
interval-part form s i =
    let b : ℕ = 4 * (i * form.values) in
    ap (λ (p : List ℕ). word_from form p 0) (take_all (length s - b) (drop b s) (omega (arith, length-drop b s))) ∙ word-part form s b 0 (0 + b) (omega arith)

-- a value at its place, or the zero of an unused pair
module _ (n : ℕ) (s : List ℕ) (k : ℕ) where
  pub number-there : k < n → value_at s (4 * k) ≡ number_from n s 0 k
  unfolding number_from
  number-there h = rw (lt-ltb k n h) (ap (value_at s) (omega arith))

  pub number-none : n ≤ k → pos 0 ≡ number_from n s 0 k
  unfolding number_from
  number-none h = rw (le-ltb k n h)

-- ---- A row

grid-same : (start stride m : ℕ) (f g : ℕ → ℕ → ℤ) (n : ℕ) (w : List ℤ) → ((i : ℕ) → i < n → (j : ℕ) → f i j ≡ g i j) → grid start stride m f n w ≡ grid start stride m g n w
unfolding grid grid_row turns
grid-same start stride m f g zero w h = refl
grid-same start stride m f g (suc n) w h =
    ap (λ (x : ℕ → ℤ). on_part (start + n * stride) (start + n * stride + m) (λ p. tabulate (length p) x) (grid start stride m f n w)) (fun_ext (h n (omega arith)))
    ∙ ap (on_part (start + n * stride) (start + n * stride + m) (λ p. tabulate (length p) (g n))) (grid-same start stride m f g n w (λ i l. h i (omega arith)))

module _ (o : Terms) (sec : Section) (a d : ℕ) where
  -- a row starts at its place in its day's slot
  pub row-start : {x y a' d' : ℕ} → x ≡ slot_start o d' → y ≡ place sec a' 0 → a' ≡ a → d' ≡ d → x + y ≡ row_word o sec a d 0 0
  unfolding slot_start row_word interval_word
  row-start ex ey ea ed = rw (ex, ey, ea, ed) (omega arith)

  last-interval : row_word o sec a d (intervals - 1) 0 ≡ row_word o sec a d 0 0 + (intervals - 1) * interval_size o
  unfolding row_word interval_word
  last-interval = omega (arith, add-mul (slot o d * intervals) (intervals - 1) (interval_size o), add-mul (slot o d * intervals) 0 (interval_size o))

  -- and ends within the book
  pub row_room : InTerms o → a < accounts_of sec o.accounts → row_word o sec a d 0 0 + (intervals - 1) * interval_size o + width sec ≤ size o
  row_room t h =
      let p = flag-inside sec in
      let l = row_word-inside o sec d {a = a} {i = intervals - 1} {j = width sec - 1} (ring-pos o t) h (omega arith) (omega arith) in
      omega (arith, row-run o sec a d (intervals - 1) (width sec - 1) (omega arith), last-interval)

-- what a writer of the row's form leaves is the row, stored
pub row-stored : (o : Terms) (sec : Section) (s : List ℕ) (at : ℕ) (w : List ℤ) {start stride from : ℕ} {form : Form}
    → start ≡ row_word o sec (account_at sec s at) (day_at sec s at) 0 0 → stride ≡ interval_size o → form ≡ form_of sec (count_at sec s at) → from ≡ values_pos sec at
    → InTerms o → RowFits o sec s at → size o ≤ length w → grid start stride form.words (row_from form s from) intervals w ≡ row_stored o (row_at sec s at) intervals w
row-stored o sec s at w es et ef ev t h l =
    rw (es, et, ef, ev)
    (sym (row-grid o (row_at sec s at) (ring-pos o t) h.account intervals w (omega arith) l
    ∙ grid-same (row_word o sec (account_at sec s at) (day_at sec s at) 0 0) (interval_size o) (width sec) (entry (row_at sec s at)) (row_from (form_of sec (count_at sec s at)) s (values_pos sec at)) intervals w
    (λ i hi j. word-from sec s at i hi j h.count)))

-- ---- The rows of a section

module _ (o : Terms) (sec : Section) (s : List ℕ) (first : ℕ) (w : List ℤ) where
  pub first-none : w ≡ first_stored o sec s first 0 w
  unfolding first_stored turns
  first-none = refl

  pub first_more : (i : ℕ) → first_stored o sec s first (i + 1) w ≡ row_stored o (row_at sec s (row_pos sec s first i)) intervals (first_stored o sec s first i w)
  unfolding first_stored
  first_more i = turns-suc i (λ k. row_stored o (row_at sec s (row_pos sec s first k)) intervals) w

turns-front : (n : ℕ) (f : ℕ → List ℤ → List ℤ) (w : List ℤ) → turns (suc n) f w ≡ turns n (λ i. f (suc i)) (f 0 w)
unfolding turns
turns-front zero f w = refl
turns-front (suc n) f w = ap (f (suc n)) (turns-front n f w)

rows-turns : (o : Terms) (n : ℕ) (g : ℕ → Row) (w : List ℤ) → turns n (λ i. row_stored o (g i) intervals) w ≡ rows_stored o (tabulate n g) w
unfolding rows_stored tabulate turns
rows-turns o zero g w = refl
rows-turns o (suc n) g w = turns-front n (λ i. row_stored o (g i) intervals) w ∙ rows-turns o n (λ k. g (suc k)) (row_stored o (g 0) intervals w)

pub first-all : (o : Terms) (sec : Section) (s : List ℕ) (at : ℕ) (w : List ℤ) → first_stored o sec s (at + 2) (rows_in s at) w ≡ rows_stored o (section_rows sec s at) w
unfolding first_stored section_rows
first-all o sec s at w = rows-turns o (rows_in s at) (λ i. row_at sec s (row_pos sec s (at + 2) i)) w

-- ---- The sections of a file

rows_append : (o : Terms) (xs ys : List Row) (w : List ℤ) → rows_stored o (xs ++ ys) w ≡ rows_stored o ys (rows_stored o xs w)
unfolding rows_stored
rows_append o [] ys w = refl
rows_append o (x ∷ xs) ys w = rows_append o xs ys (row_stored o x intervals w)

pub rows_four : (o : Terms) (s : List ℕ) (w : List ℤ)
    → rows_stored o (file_rows s) w
    ≡ rows_stored o (section_rows Ncc s (ncc_pos s)) (rows_stored o (section_rows Residual s (residual_pos s)) (rows_stored o (section_rows Meter s (meter_pos s)) (rows_stored o (section_rows Vesting s 0) w)))
unfolding file_rows
rows_four o s w = rw (rows_append o (section_rows Vesting s 0), rows_append o (section_rows Meter s (meter_pos s)), rows_append o (section_rows Residual s (residual_pos s)))
