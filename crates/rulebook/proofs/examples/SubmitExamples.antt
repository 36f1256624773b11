-- Document 01, "A submission file": what an accepted row leaves in the book's words, by index, at intervals 0, 20 and 47, whatever stood there.
-- N = 2, L = H = 1, F = 9,497, so that day 9,498's slot is words 2,576 to 5,071, of which account 1's first are 2,604 to 2,627. Assumes nothing.
use Rattle.std.specs.Prelude.{◌≡◌, refl, List, [], ◌∷◌, ◌++◌, ℕ, ◌+◌, ◌-◌, ◌≤◌, ◌<◌, T, ℤ, pos, length, replicate, Ok}
use Rattle.std.proofs.Common.{sym, ap, ◌∙◌, subst, arith}
use Rattle.integer.specs.Integer.{twos_complement}
use Rattle.integer.specs.Below.{fold, tabulate, turns}
use Rattle.integer.proofs.laws.BelowLaws.{length-tabulate, get_d_tabulate, tabulate-of}
use Rattle.integer.specs.Words.{word}
use Rattle.rulebook.specs.declared.Section.{Section}
use Rattle.rulebook.specs.declared.Section.TheVariants.{Vesting, Meter, Residual, Ncc}
use Rattle.rulebook.specs.declared.Terms.{Terms}
use Rattle.rulebook.specs.Sections.{accounts_of}
use Rattle.rulebook.specs.Layout.{width, base, ring, interval_size, slot, interval_word, row_word, InWindow}
use Rattle.rulebook.specs.BookData.{terms_of, next_day, entries_of}
use Rattle.rulebook.specs.WellFormed.{well_formed}
use Rattle.rulebook.specs.Opening.{new_book}
use Rattle.rulebook.specs.File.{num, value_at, row_end, row_pos, section_end, section_rows, file_rows, Row, number_of, figure_of}
use Rattle.rulebook.specs.Judging.{field_in, value, key, given, rest, row_after, judged_row, judged_section, limits_of, judged}
use Rattle.rulebook.specs.Submit.{entry, entry_stored, row_stored, rows_stored, submitted, entry_or}
use Rattle.rulebook.specs.History.{closes, latest, last_for}
use Rattle.rulebook.proofs.examples.Examples.{one, two, in_two, zeros}
use Rattle.rulebook.proofs.examples.LayoutExamples.{places}
use Rattle.rulebook.proofs.laws.IndexLaws.{row-run}
use Rattle.rulebook.proofs.laws.WordLaws.{row_in, row_out, length-row_stored}
use Rattle.rulebook.proofs.laws.LentLaws.{submitted-rows}
use Rattle.rulebook.proofs.laws.StateLaws.{terms, next}
use Rattle.rulebook.proofs.laws.StartLaws.{new_state, new_formed}

-- ---- Rows of account 1, of which number k is 100 + k

abbrev row : Section → ℕ → ℕ → ℕ → ℕ → Row
row s account day count n = record { section = s; account = account; day = day; count = count; numbers = tabulate n (λ k. pos (100 + k)) }

-- two tranches, then none, on 9,498; none on 9,497
abbrev vesting : Row
vesting = row Vesting 1 9498 2 288

abbrev fewer : Row
fewer = row Vesting 1 9498 0 96

abbrev day_before : Row
day_before = row Vesting 1 9497 0 96

abbrev meter : Row
meter = row Meter 1 9498 1 96

abbrev residual : Row
residual = row Residual 1 9498 0 192

abbrev ncc : Row
ncc = row Ncc 0 9498 0 48

-- the n words from an index on
abbrev words_from : ℕ → ℕ → List ℤ → List ℤ
words_from at n w = tabulate n (λ j. word w (at + j))

-- they are these, once the row is stored in any book's words
abbrev Leaves : Row → ℕ → List ℤ → Type 0
Leaves r at words = (w : List ℤ) → 5072 ≤ length w → words_from at (length words) (row_stored two r 48 w) ≡ words

-- the words from one index to another are as they were
abbrev Keeps : Row → ℕ → ℕ → Type 0
Keeps r from to = (w : List ℤ) (m : ℕ) → from ≤ m → m < to → word (row_stored two r 48 w) m ≡ word w m

-- two tranches, then none
abbrev both_stored : List ℤ → List ℤ
both_stored w = rows_stored two (vesting ∷ fewer ∷ []) w

pub record StoredRows : Type 0 where
  -- 1 + two tranches, six figures, the third pair zero
  pub vesting_first : Leaves vesting 2604 (pos 3 ∷ pos 100 ∷ pos 101 ∷ pos 102 ∷ pos 103 ∷ pos 104 ∷ pos 105 ∷ pos 0 ∷ pos 0 ∷ [])
  pub vesting_middle : Leaves vesting 3644 (pos 3 ∷ pos 220 ∷ pos 221 ∷ pos 222 ∷ pos 223 ∷ pos 224 ∷ pos 225 ∷ pos 0 ∷ pos 0 ∷ [])
  pub vesting_last : Leaves vesting 5048 (pos 3 ∷ pos 382 ∷ pos 383 ∷ pos 384 ∷ pos 385 ∷ pos 386 ∷ pos 387 ∷ pos 0 ∷ pos 0 ∷ [])
  -- a revision without tranches: the flag is rewritten, the pairs that it does not use are zero
  pub revised : (w : List ℤ) → 5072 ≤ length w → words_from 2604 9 (both_stored w) ≡ pos 1 ∷ pos 100 ∷ pos 101 ∷ replicate 6 (pos 0)
  pub revised_last : (w : List ℤ) → 5072 ≤ length w → words_from 5048 9 (both_stored w) ≡ pos 1 ∷ pos 194 ∷ pos 195 ∷ replicate 6 (pos 0)
  -- one facility
  pub meter_first : Leaves meter 2613 (pos 1 ∷ pos 100 ∷ pos 101 ∷ replicate 6 (pos 0))
  pub meter_middle : Leaves meter 3653 (pos 1 ∷ pos 140 ∷ pos 141 ∷ replicate 6 (pos 0))
  pub meter_last : Leaves meter 5057 (pos 1 ∷ pos 194 ∷ pos 195 ∷ replicate 6 (pos 0))
  -- residual present, UEGQ, MQ, RVP1, RVP2
  pub residual_first : Leaves residual 2622 (pos 1 ∷ pos 100 ∷ pos 101 ∷ pos 102 ∷ pos 103 ∷ [])
  pub residual_middle : Leaves residual 3662 (pos 1 ∷ pos 180 ∷ pos 181 ∷ pos 182 ∷ pos 183 ∷ [])
  pub residual_last : Leaves residual 5066 (pos 1 ∷ pos 288 ∷ pos 289 ∷ pos 290 ∷ pos 291 ∷ [])
  -- load, NCC present
  pub ncc_first : Leaves ncc 2576 (pos 100 ∷ pos 1 ∷ [])
  pub ncc_middle : Leaves ncc 3616 (pos 120 ∷ pos 1 ∷ [])
  pub ncc_last : Leaves ncc 5020 (pos 147 ∷ pos 1 ∷ [])
  -- the day before has the first slot
  pub first_slot : Leaves day_before 108 (pos 1 ∷ pos 100 ∷ pos 101 ∷ replicate 6 (pos 0))
  -- kept: header, balances, the other day's slot, and of the day the load and account 0's words; account 1's other rows to the next interval's
  pub before : Keeps vesting 0 2604
  pub between : Keeps vesting 2613 2656
  pub other_slot : Keeps day_before 2576 5072

-- ---- By the laws of a stored row

words_of : (at n : ℕ) (w : List ℤ) (f : ℕ → ℤ) → ((j : ℕ) → j < n → word w (at + j) ≡ f j) → words_from at n w ≡ tabulate n f
words_of at n w f h = tabulate-of (pos 0) (words_from at n w) n f (length-tabulate n (λ j. word w (at + j)))
    (λ j hj. get_d_tabulate n (λ j. word w (at + j)) j (pos 0) hj ∙ h j hj)

some_slot : 0 < ring two
unfolding ring
some_slot = omega arith

-- the row's words at interval i, which start at `at`
leaves-row : (r : Row) (i at : ℕ) → r.account < accounts_of r.section 2 → i < 48 → row_word two r.section r.account r.day i 0 ≡ at
    → (w : List ℤ) → 5072 ≤ length w → words_from at (width r.section) (row_stored two r 48 w) ≡ tabulate (width r.section) (entry r i)
leaves-row r i at ha hi e w l = words_of at (width r.section) (row_stored two r 48 w) (entry r i) (λ j hj.
    ap (word (row_stored two r 48 w)) (omega (arith, e, row-run two r.section r.account r.day i j hj))
    ∙ row_in two r some_slot ha 48 w (omega arith) (omega (arith, places.size_two)) i j hi hj)

still_long : (w : List ℤ) → 5072 ≤ length w → 5072 ≤ length (row_stored two vesting 48 w)
still_long w l = omega (arith, length-row_stored two vesting 48 w)

pub stored-rows : StoredRows
unfolding tabulate entry figure_of number_of base ring interval_size slot interval_word row_word rows_stored
stored-rows = record {
  vesting_first = leaves-row vesting 0 2604 (omega arith) (omega arith) refl;
  vesting_middle = leaves-row vesting 20 3644 (omega arith) (omega arith) refl;
  vesting_last = leaves-row vesting 47 5048 (omega arith) (omega arith) refl;
  revised = λ w l. leaves-row fewer 0 2604 (omega arith) (omega arith) refl (row_stored two vesting 48 w) (still_long w l);
  revised_last = λ w l. leaves-row fewer 47 5048 (omega arith) (omega arith) refl (row_stored two vesting 48 w) (still_long w l);
  meter_first = leaves-row meter 0 2613 (omega arith) (omega arith) refl;
  meter_middle = leaves-row meter 20 3653 (omega arith) (omega arith) refl;
  meter_last = leaves-row meter 47 5057 (omega arith) (omega arith) refl;
  residual_first = leaves-row residual 0 2622 (omega arith) (omega arith) refl;
  residual_middle = leaves-row residual 20 3662 (omega arith) (omega arith) refl;
  residual_last = leaves-row residual 47 5066 (omega arith) (omega arith) refl;
  ncc_first = leaves-row ncc 0 2576 (omega arith) (omega arith) refl;
  ncc_middle = leaves-row ncc 20 3616 (omega arith) (omega arith) refl;
  ncc_last = leaves-row ncc 47 5020 (omega arith) (omega arith) refl;
  first_slot = leaves-row day_before 0 108 (omega arith) (omega arith) refl;
  before = λ w m x y. row_out two vesting 48 w m (λ i j hi hj e. omega (arith, e, row-run two Vesting 1 9498 i j hj));
  between = λ w m x y. row_out two vesting 48 w m (λ i j hi hj e. omega (arith, e, row-run two Vesting 1 9498 i j hj));
  other_slot = λ w m x y. row_out two day_before 48 w m (λ i j hi hj e. omega (arith, e, row-run two Vesting 1 9497 i j hj));
}

-- ---- Computed, entryOr words that are all 9: what still is 9 was not written

abbrev nines : ℕ → List ℤ
nines n = replicate n (pos 9)

-- account 1's row of 9,497, in its first n intervals
abbrev of_first : Section → ℕ → ℕ → List ℤ → List ℤ
of_first s count n w = row_stored two (row s 1 9497 count 192) n w

-- N = 1, an NCC row of 9,497
abbrev loads : List ℤ
loads = row_stored one (row Ncc 0 9497 0 48) 48 (nines 1416)

pub record OverNines : Type 0 where
  -- one tranche: the flag, two pairs, two pairs of zeros; the same in the next interval
  pub first_interval : words_from 107 11 (of_first Vesting 1 2 (nines 200))
      ≡ pos 9 ∷ pos 2 ∷ pos 100 ∷ pos 101 ∷ pos 102 ∷ pos 103 ∷ replicate 4 (pos 0) ++ (pos 9 ∷ [])
  pub next_interval : words_from 159 11 (of_first Vesting 1 2 (nines 200))
      ≡ pos 9 ∷ pos 2 ∷ pos 104 ∷ pos 105 ∷ pos 106 ∷ pos 107 ∷ replicate 4 (pos 0) ++ (pos 9 ∷ [])
  -- three tranches, then none: the flag is 1, and the three pairs are zero
  pub three_tranches : words_from 108 4 (of_first Vesting 3 1 (nines 200)) ≡ pos 4 ∷ pos 100 ∷ pos 101 ∷ pos 102 ∷ []
  pub revised_to_none : words_from 107 11 (of_first Vesting 0 1 (of_first Vesting 3 1 (nines 200)))
      ≡ pos 9 ∷ pos 1 ∷ pos 100 ∷ pos 101 ∷ replicate 6 (pos 0) ++ (pos 9 ∷ [])
  pub facility : words_from 116 11 (of_first Meter 1 1 (nines 200)) ≡ pos 9 ∷ pos 1 ∷ pos 100 ∷ pos 101 ∷ replicate 6 (pos 0) ++ (pos 9 ∷ [])
  pub residual_there : words_from 125 7 (of_first Residual 0 1 (nines 200)) ≡ pos 9 ∷ pos 1 ∷ pos 100 ∷ pos 101 ∷ pos 102 ∷ pos 103 ∷ pos 9 ∷ []
  -- day 9,498's slot, and not the first
  pub slots : (word (row_stored two vesting 1 (nines 2700)) 2604 ≡ pos 3) × (word (row_stored two vesting 1 (nines 2700)) 108 ≡ pos 9)
  -- the load of intervals 0, 20 and 47
  pub each_interval : (word loads 72 ≡ pos 100) × (word loads 632 ≡ pos 120) × (word loads 1388 ≡ pos 147)

pub over_nines : OverNines
unfolding tabulate entry figure_of number_of base ring interval_size slot interval_word row_word row_stored entry_stored
over_nines = record {
  first_interval = refl;
  next_interval = refl;
  three_tranches = refl;
  revised_to_none = refl;
  facility = refl;
  residual_there = refl;
  slots = (refl, refl);
  each_interval = (refl, refl, refl);
}

-- ---- A submission, from its bytes

-- a vesting row of account 1, day 9,497, no tranches: BVQ 7 in interval 0, 9 in interval 47
abbrev vesting_bytes : List ℕ
vesting_bytes = 1 ∷ 0x19 ∷ 0x25 ∷ 0 ∷ 7 ∷ zeros 375 ++ (9 ∷ zeros 7)

-- an NCC row of that day: loads 5, 6 and 7 in intervals 0, 20 and 47
abbrev ncc_bytes : List ℕ
ncc_bytes = 0x19 ∷ 0x25 ∷ 5 ∷ zeros 79 ++ (6 ∷ zeros 107 ++ (7 ∷ zeros 3))

abbrev file : List ℕ
file = 1 ∷ 0 ∷ vesting_bytes ++ (zeros 4 ++ (1 ∷ 0 ∷ ncc_bytes))

-- a well-formed book with N = 2, L = H = 1, F = 9,497 of which no day is closed
pub record Begun (w : List ℤ) : Type 0 where
  pub formed : T (well_formed w)
  pub terms : terms_of w ≡ two
  pub next : next_day w ≡ 9497

-- the words that the file leaves of such a book
abbrev after : List ℤ → List ℤ
after w = (submitted w file).words

pub record SubmittedFile : Type 0 where
  -- a new book is one
  pub new_book : (lent : List ℤ) → 5072 ≤ length lent → Begun (new_book two lent)
  pub vesting : (w : List ℤ) → Begun w → words_from 108 9 (after w) ≡ pos 1 ∷ pos 7 ∷ replicate 7 (pos 0)
  pub vesting_middle : (w : List ℤ) → Begun w → words_from 1148 9 (after w) ≡ pos 1 ∷ replicate 8 (pos 0)
  pub vesting_last : (w : List ℤ) → Begun w → words_from 2552 9 (after w) ≡ pos 1 ∷ pos 9 ∷ replicate 7 (pos 0)
  pub load : (w : List ℤ) → Begun w → words_from 80 2 (after w) ≡ pos 5 ∷ pos 1 ∷ []
  pub load_middle : (w : List ℤ) → Begun w → words_from 1120 2 (after w) ≡ pos 6 ∷ pos 1 ∷ []
  pub load_last : (w : List ℤ) → Begun w → words_from 2524 2 (after w) ≡ pos 7 ∷ pos 1 ∷ []
  -- account 0's vesting words and account 1's meter words are as they were
  pub other_account : (w : List ℤ) → Begun w → words_from 84 9 (after w) ≡ words_from 84 9 w
  pub other_section : (w : List ℤ) → Begun w → words_from 117 9 (after w) ≡ words_from 117 9 w

file-accepted : judged (limits_of two 9497) file ≡ (Ok tt)
unfolding judged judged_section judged_row row_after rest given key field_in value fold num row_end row_pos section_end turns value_at twos_complement
file-accepted = refl

-- what is true of two's terms and 9,497 is true of the book's terms and next day
begun-as : {w : List ℤ} → Begun w → (P : Terms → ℕ → Type 0) → P two 9497 → P (terms_of w) (next_day w)
begun-as {w} b P x = subst (λ (o : Terms). P o (next_day w)) (sym b.terms) (subst (P two) (sym b.next) x)

module _ (w : List ℤ) (b : Begun w) (s : Section) (a i : ℕ) (ha : a < accounts_of s 2) (hi : i < 48) where
  -- word j of a row of 9,497 at interval i
  after_word : (j : ℕ) → j < width s → word (after w) (row_word two s a 9497 i j) ≡ entry_or (last_for (file_rows file) s a 9497) (entries_of two w s a 9497) i j
  after_word j hj =
      subst (λ (o : Terms). word (after w) (row_word o s a 9497 i j) ≡ entry_or (last_for (file_rows file) s a 9497) (entries_of o w s a 9497) i j) b.terms
      (submitted-rows w file b.formed (begun-as b (λ o C. judged (limits_of o C) file ≡ (Ok tt)) file-accepted) s a 9497 i j
      (begun-as b (λ o C. InWindow o (C - o.first) 9497) (omega arith)) (begun-as b (λ o C. a < accounts_of s o.accounts) ha) hi hj)

  after_words : (at : ℕ) → row_word two s a 9497 i 0 ≡ at
      → words_from at (width s) (after w) ≡ tabulate (width s) (entry_or (last_for (file_rows file) s a 9497) (entries_of two w s a 9497) i)
  after_words at e = words_of at (width s) (after w) (entry_or (last_for (file_rows file) s a 9497) (entries_of two w s a 9497) i)
      (λ j hj. ap (word (after w)) (omega (arith, e, row-run two s a 9497 i j hj)) ∙ after_word j hj)

pub submitted-file : SubmittedFile
unfolding tabulate entry figure_of number_of base ring interval_size slot interval_word row_word closes last_for latest file_rows section_rows num row_end row_pos section_end turns value_at twos_complement
submitted-file = record {
  new_book = λ lent l. let h = new_state two in_two lent (omega (arith, places.size_two)) in record {
    formed = new_formed two in_two lent (omega (arith, places.size_two));
    terms = terms two in_two [] (new_book two lent) h;
    next = next two in_two [] (new_book two lent) h;
  };
  vesting = λ w b. after_words w b Vesting 1 0 (omega arith) (omega arith) 108 refl;
  vesting_middle = λ w b. after_words w b Vesting 1 20 (omega arith) (omega arith) 1148 refl;
  vesting_last = λ w b. after_words w b Vesting 1 47 (omega arith) (omega arith) 2552 refl;
  load = λ w b. after_words w b Ncc 0 0 (omega arith) (omega arith) 80 refl;
  load_middle = λ w b. after_words w b Ncc 0 20 (omega arith) (omega arith) 1120 refl;
  load_last = λ w b. after_words w b Ncc 0 47 (omega arith) (omega arith) 2524 refl;
  other_account = λ w b. after_words w b Vesting 0 0 (omega arith) (omega arith) 84 refl;
  other_section = λ w b. after_words w b Meter 1 0 (omega arith) (omega arith) 117 refl;
}
