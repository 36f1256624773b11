-- Document 01, "Numbers returned, with examples": openings, and closes and submissions of books. Assumes nothing.
use Rattle.std.specs.Prelude.{◌≡◌, refl, true, false, List, [], ℕ, ◌+◌, ◌*◌, ◌≤◌, ◌<◌, T, ℤ, pos, nat_abs, length, set}
use Rattle.std.proofs.Common.{sym, ap, ◌∙◌, ⊎_elim, arith, lt-ltb, le-ltb, get_or-set_same, get_or-set_other}
use Rattle.integer.specs.Integer.{minus}
use Rattle.integer.specs.Below.{fold, tabulate, turns}
use Rattle.integer.specs.Words.{word}
use Rattle.rulebook.specs.declared.Terms.{Terms}
use Rattle.rulebook.specs.Units.{last_day, positive}
use Rattle.rulebook.specs.Terms.{terms_fit}
use Rattle.rulebook.specs.BookData.{terms_of, next_day}
use Rattle.rulebook.specs.WellFormed.{header_fits, fits, well_formed}
use Rattle.rulebook.specs.Layout.{size}
use Rattle.rulebook.specs.Opening.{new_book, opened}
use Rattle.rulebook.specs.File.{num, row_pos, section_end, section_rows, file_rows}
use Rattle.rulebook.specs.Judging.{judged_section, judged}
use Rattle.rulebook.specs.Submit.{rows_stored, submitted}
use Rattle.rulebook.specs.Close.{closed}
use Rattle.rulebook.specs.Numbers.{numbered, of_open, of_submit, of_close}
use Rattle.rulebook.proofs.examples.Examples.{two, in_two, zeros}
use Rattle.rulebook.proofs.examples.LayoutExamples.{places}
use Rattle.rulebook.proofs.laws.TestLaws.{T-path, not_so}
use Rattle.rulebook.proofs.laws.FormedBookLaws.{formed-book}
use Rattle.rulebook.proofs.laws.StateLaws.{formed}
use Rattle.rulebook.proofs.laws.StartLaws.{new_state, opening-told}

-- ---- Openings

-- N, L, H, F, without a change day; X, of two accounts with L = H = 1 and F = 20,000
abbrev terms : ℕ → ℕ → ℕ → ℕ → Terms
terms n l h f = record { accounts = n; lag = l; horizon = h; first = f; change = 0 }

abbrev changing : ℕ → Terms
changing x = record { accounts = 2; lag = 1; horizon = 1; first = 20000; change = x }

-- what an opening of any words returns
abbrev Opens : Terms → ℕ → Type 0
Opens o number = (w : List ℤ) → of_open (opened o w).answer ≡ numbered number 0

pub record Openings : Type 0 where
  pub no_account : Opens (terms 0 1 1 9497) 1
  pub many_accounts : Opens (terms 33 1 1 9497) 1
  pub no_lag : Opens (terms 2 0 1 9497) 1
  pub long_lag : Opens (terms 2 76 1 9497) 1
  pub no_horizon : Opens (terms 2 1 0 9497) 1
  pub long_horizon : Opens (terms 2 1 93 9497) 1
  pub early_first : Opens (terms 2 1 1 9496) 1
  pub late_first : Opens (terms 2 1 1 36525) 1
  pub most : terms_fit (terms 32 75 92 36524) ≡ true
  -- X is 0 or from 9,497 to 36,524; 1 comes before 2
  pub no_change : Opens (changing 1) 1
  pub early_change : Opens (changing 9496) 1
  pub late_change : Opens (changing 36525) 1
  pub changes : (terms_fit (changing 0) ≡ true) × (terms_fit (changing 9497) ≡ true) × (terms_fit (changing 36524) ≡ true)
  pub short : (w : List ℤ) → length w ≡ 5071 → of_open (opened two w).answer ≡ numbered 2 0
  pub enough : (w : List ℤ) → 5072 ≤ length w → of_open (opened two w).answer ≡ numbered 0 0

pub openings : Openings
unfolding opened terms_fit
openings = record {
  no_account = λ w. refl;
  many_accounts = λ w. refl;
  no_lag = λ w. refl;
  long_lag = λ w. refl;
  no_horizon = λ w. refl;
  long_horizon = λ w. refl;
  early_first = λ w. refl;
  late_first = λ w. refl;
  most = refl;
  no_change = λ w. refl;
  early_change = λ w. refl;
  late_change = λ w. refl;
  changes = (refl, refl, refl);
  short = λ w e. (opening-told two w (opened two w).words (opened two w).answer (record { answered = refl; book_after = refl })).short.1 (in_two, omega (arith, places.size_two));
  enough = λ w e. (opening-told two w (opened two w).words (opened two w).answer (record { answered = refl; book_after = refl })).taken.1 (in_two, omega (arith, places.size_two));
}

-- ---- Any lent book

pub record LentBooks : Type 0 where
  -- word 0 is 394
  pub submit_mark : (w : List ℤ) (file : List ℕ) → word w 0 ≡ pos 394 → of_submit (submitted w file).answer ≡ numbered 3 0
  pub close_mark : (w statement : List ℤ) → word w 0 ≡ pos 394 → of_close (closed w statement).answer ≡ numbered 3 0
  -- X in word 7 is no day from 9,497 to 36,524: 1, and below zero
  pub submit_change : (w : List ℤ) (file : List ℕ) → word w 7 ≡ pos 1 → of_submit (submitted w file).answer ≡ numbered 3 0
  pub close_change : (w statement : List ℤ) → word w 7 ≡ pos 1 → of_close (closed w statement).answer ≡ numbered 3 0
  pub change_below_zero : (w statement : List ℤ) → word w 7 ≡ minus 9500 → of_close (closed w statement).answer ≡ numbered 3 0
  -- an account's eighth word is 1: word 71 of any book, word 79 of two accounts, 319 of 32
  pub submit_padding : (w : List ℤ) (file : List ℕ) → word w 71 ≡ pos 1 → of_submit (submitted w file).answer ≡ numbered 3 0
  pub close_padding : (w statement : List ℤ) → word w 71 ≡ pos 1 → of_close (closed w statement).answer ≡ numbered 3 0
  pub second_padding : (w statement : List ℤ) → (terms_of w).accounts ≡ 2 → word w 79 ≡ pos 1 → of_close (closed w statement).answer ≡ numbered 3 0
  pub last_padding : (w statement : List ℤ) → (terms_of w).accounts ≡ 32 → word w 319 ≡ pos 1 → of_close (closed w statement).answer ≡ numbered 3 0
  -- a new book of two accounts, and the same but for its word 79
  pub eighth_word : (lent : List ℤ) → 5072 ≤ length lent
      → (well_formed (new_book two lent) ≡ true) × (well_formed (set (new_book two lent) 79 (pos 1)) ≡ false)
  -- a finished book, whatever the statement
  pub finished : (w statement : List ℤ) → T (well_formed w) → next_day w ≡ 36525 → of_close (closed w statement).answer ≡ numbered 9 0
  -- N + 1 words are needed
  pub no_room : (w statement : List ℤ) → T (well_formed w) → next_day w ≤ 36524 → length statement ≤ (terms_of w).accounts → of_close (closed w statement).answer ≡ numbered 10 0
  -- eight zero bytes are accepted and change nothing
  pub eight_zeros : (w : List ℤ) → T (well_formed w) → (of_submit (submitted w (zeros 8)).answer ≡ numbered 0 0) × ((submitted w (zeros 8)).words ≡ w)

not_formed : (w : List ℤ) → word w 0 ≡ pos 394 → well_formed w ≡ false
unfolding well_formed fits header_fits
not_formed w e = rw e refl

-- X has no such value
change-of_one : (w : List ℤ) → word w 7 ≡ pos 1 → T (well_formed w) → ⊥
change-of_one w e t = let x = ap nat_abs (sym e ∙ (formed-book w t).change) in ⊎_elim (λ h. omega (arith, x, h)) (λ h. omega (arith, x, h.0)) (formed-book w t).terms.change

change-below : (w : List ℤ) → word w 7 ≡ minus 9500 → T (well_formed w) → ⊥
change-below w e t = let x = ap positive (sym e ∙ (formed-book w t).change) in let y = ap nat_abs (sym e ∙ (formed-book w t).change) in omega (arith, x, y)

-- account a's eighth word is used: not well formed
padding-used : (w : List ℤ) (a : ℕ) → (T (well_formed w) → a < (terms_of w).accounts) → word w (64 + 8 * a + 7) ≡ pos 1 → well_formed w ≡ false
padding-used w a h e = not_so (well_formed w) (λ t. omega (arith, ap nat_abs (sym e ∙ (formed-book w t).balance_zeros a 7 (h t) (omega arith) (omega arith))))

eighth_word : (lent : List ℤ) → size two ≤ length lent
    → (well_formed (new_book two lent) ≡ true) × (well_formed (set (new_book two lent) 79 (pos 1)) ≡ false)
eighth_word lent l =
    let h = new_state two in_two lent l in
    let book : List ℤ = new_book two lent in
    let n : (terms_of (set book 79 (pos 1))).accounts ≡ 2 = ap positive (get_or-set_other book 79 1 (pos 1) (pos 0) (omega arith) ∙ h.holds.accounts) in
    let e : word (set book 79 (pos 1)) 79 ≡ pos 1 = get_or-set_same book 79 (pos 1) (pos 0) (omega (arith, h.holds.long, places.size_two)) in
    (formed two in_two [] book h, padding-used (set book 79 (pos 1)) 1 (λ t. omega arith) e)

pub lent-books : LentBooks
unfolding submitted closed
lent-books = record {
  submit_mark = λ w file e. rw (not_formed w e) refl;
  close_mark = λ w statement e. rw (not_formed w e) refl;
  submit_change = λ w file e. rw (not_so (well_formed w) (change-of_one w e)) refl;
  close_change = λ w statement e. rw (not_so (well_formed w) (change-of_one w e)) refl;
  change_below_zero = λ w statement e. rw (not_so (well_formed w) (change-below w e)) refl;
  submit_padding = λ w file e. rw (padding-used w 0 (λ t. (formed-book w t).terms.accounts_from) e) refl;
  close_padding = λ w statement e. rw (padding-used w 0 (λ t. (formed-book w t).terms.accounts_from) e) refl;
  second_padding = λ w statement n e. rw (padding-used w 1 (λ t. omega arith) e) refl;
  last_padding = λ w statement n e. rw (padding-used w 31 (λ t. omega arith) e) refl;
  eighth_word = λ lent l. eighth_word lent (omega (arith, places.size_two));
  finished = λ w statement t e. rw (T-path (well_formed w) t, e) refl;
  no_room = λ w statement t left short. rw (T-path (well_formed w) t, le-ltb last_day (next_day w) left, lt-ltb (length statement) ((terms_of w).accounts + 1) (omega arith)) refl;
  eight_zeros = λ w t. unfold judged judged_section fold num row_pos section_end turns file_rows section_rows tabulate rows_stored in rw (T-path (well_formed w) t) (refl, refl);
}
