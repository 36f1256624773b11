-- Closes after short histories: what is searched in which order, which rows are in force, what an accepted close returns. Computed. Assumes nothing.
use Rattle.std.specs.Prelude.{◌≡◌, refl, true, false, List, [], ◌∷◌, ◌++◌, ℕ, ◌≤◌, ltb, ℤ, pos, length, replicate}
use Rattle.std.proofs.Common.{◌∙◌, arith, lt-ltb, le-ltb}
use Rattle.integer.specs.Integer.{minus, with_sign, twos_complement}
use Rattle.integer.specs.Below.{fold, or_else, tabulate, turns}
use Rattle.rulebook.specs.declared.Section.TheVariants.{Ncc}
use Rattle.rulebook.specs.declared.Terms.{Terms}
use Rattle.rulebook.specs.Units.{nearest}
use Rattle.rulebook.specs.ReferencePrice.{average, reference_price}
use Rattle.rulebook.specs.Shares.{share, share_of, edition_share}
use Rattle.rulebook.specs.Tranches.{tranche1, tranche2}
use Rattle.rulebook.specs.DayAmount.{reference_price_of, vested_quantity, tender_amount, vesting_amount, share_amount, hedge_total, residual_load, rvq, residual_amount, settles_residual, edition_of, interval_amount, exact_amount, posted_amount, mssl_amount, mssl_exact, rounding_difference}
use Rattle.rulebook.specs.Terms.{InTerms}
use Rattle.rulebook.specs.Layout.{size, base, ring, interval_size, slot, interval_word, row_word}
use Rattle.rulebook.specs.Opening.{new_book}
use Rattle.rulebook.specs.File.{num, value_at, row_end, row_pos, section_end, section_rows, file_rows, number_of, figure_of, NccLoad}
use Rattle.rulebook.specs.Close.{searched, residual_count, closed}
use Rattle.rulebook.specs.Numbers.{numbered, of_close}
use Rattle.rulebook.specs.History.{Event, submit, close, closes, latest, last_for, accepted_rows, in_force, figure_in, formula_difference, returned_differences}
use Rattle.rulebook.specs.Companion.{first_lacking, close_told}
use Rattle.rulebook.proofs.examples.Examples.{one, two, in_one, in_two, zeros}
use Rattle.rulebook.proofs.examples.LayoutExamples.{places}
use Rattle.rulebook.proofs.laws.StartLaws.{new_state}
use Rattle.rulebook.proofs.laws.CompanionProof.{close-tells}

-- ---- Files of zeros

-- of account a, day 9,497 or 9,498: one vesting row, one meter row, both, one residual row; one NCC row
abbrev pub vesting : ℕ → ℕ → List ℕ
vesting a day = a ∷ day ∷ 0x25 ∷ 0 ∷ zeros 384

abbrev pub meter : ℕ → ℕ → List ℕ
meter a day = a ∷ day ∷ 0x25 ∷ 1 ∷ zeros 384

abbrev first : ℕ
first = 0x19

abbrev second : ℕ
second = 0x1A

abbrev vesting_file : List ℕ
vesting_file = 1 ∷ 0 ∷ vesting 0 first ++ zeros 6

abbrev meter_file : List ℕ
meter_file = 0 ∷ 0 ∷ 1 ∷ 0 ∷ meter 0 first ++ zeros 4

abbrev both_file : ℕ → ℕ → List ℕ
both_file a day = 1 ∷ 0 ∷ vesting a day ++ (1 ∷ 0 ∷ meter a day ++ zeros 4)

abbrev residual_file : ℕ → List ℕ
residual_file a = zeros 4 ++ (1 ∷ 0 ∷ a ∷ first ∷ 0x25 ∷ zeros 768 ++ zeros 2)

-- with a load in interval 0
abbrev ncc_file : ℕ → List ℕ
ncc_file load = zeros 6 ++ (1 ∷ 0 ∷ first ∷ 0x25 ∷ load ∷ zeros 191)

-- a statement of n words
abbrev pub words : ℕ → List ℤ
words n = replicate n (pos 7)

-- events, told from their answers, whatever gave these
abbrev pub taken : List ℕ → Event
taken file = record { call = submit file; answer = numbered 0 0 }

abbrev refused : List ℕ → Event
refused file = record { call = submit file; answer = numbered 8 0 }

abbrev pub closed_day : ℕ → ℕ → Event
closed_day day count = record { call = close (words 3); answer = record { number = 0; position = 0; day = day; count = count; difference = pos 0 } }

-- the first day closed with this rounding difference, and a close that lacked a datum
abbrev differing : ℤ → Event
differing z = record { call = close (words 3); answer = record { number = 0; position = 0; day = 9497; count = 0; difference = z } }

abbrev lacking : Event
lacking = record { call = close (words 3); answer = numbered 11 84 }

-- two accounts: the first day closed, the second day's own rows, the load of the first
abbrev both_ready : List Event
both_ready = taken (ncc_file 0) ∷ taken (both_file 1 second) ∷ taken (both_file 0 second) ∷ closed_day 9497 0 ∷ []

-- a close is accepted, of this day and count, with the rounding difference of the rows in force
abbrev pub Accepted : Terms → List Event → List ℤ → ℕ → ℕ → Type 0
Accepted o past statement day count = close_told o past statement ≡ record { number = 0; position = 0; day = day; count = count; difference = formula_difference o past }

-- ---- Closes

pub record Closes : Type 0 where
  -- a new book: N + 1 words are room, and the first flag lacks
  pub no_room : close_told two [] (words 2) ≡ numbered 10 0
  pub nothing : close_told two [] (words 3) ≡ numbered 11 84
  pub nothing_one : close_told one [] (words 2) ≡ numbered 11 76
  -- vesting before meter, account by account
  pub meter_lacks : close_told two (taken vesting_file ∷ []) (words 3) ≡ numbered 11 93
  pub vesting_lacks : close_told two (taken meter_file ∷ []) (words 3) ≡ numbered 11 84
  pub next_account : close_told two (taken (both_file 0 first) ∷ []) (words 3) ≡ numbered 11 108
  -- a refused file counts for nothing
  pub refused_file : close_told two (refused vesting_file ∷ []) (words 3) ≡ numbered 11 84
  -- the first day is closed without residual
  pub accepted : Accepted one (taken (both_file 0 first) ∷ []) (words 2) 9497 0
  -- the second: its own rows, then NCC and residual of r
  pub own_first : close_told one (taken (ncc_file 0) ∷ closed_day 9497 0 ∷ []) (words 2) ≡ numbered 11 1420
  pub ncc_lacks : close_told one (taken (residual_file 0) ∷ taken (both_file 0 second) ∷ closed_day 9497 0 ∷ []) (words 2) ≡ numbered 11 73
  pub residual_lacks : close_told one (taken (ncc_file 0) ∷ taken (both_file 0 second) ∷ closed_day 9497 0 ∷ []) (words 2) ≡ numbered 11 94
  pub accepted_again : Accepted one (taken (residual_file 0) ∷ taken (ncc_file 0) ∷ taken (both_file 0 second) ∷ closed_day 9497 0 ∷ []) (words 2) 9498 48
  -- the same of two accounts: 96, each account's residual row being there
  pub accepted_two : Accepted two (taken (residual_file 1) ∷ taken (residual_file 0) ∷ both_ready) (words 3) 9498 96
  pub second_lacks : close_told two (taken (residual_file 0) ∷ both_ready) (words 3) ≡ numbered 11 126
  -- no amounts, no rounding difference
  pub no_differences : (formula_difference one (taken (both_file 0 first) ∷ []) ≡ pos 0)
      × (formula_difference one (taken (residual_file 0) ∷ taken (ncc_file 0) ∷ taken (both_file 0 second) ∷ closed_day 9497 0 ∷ []) ≡ pos 0)
      × (formula_difference two (taken (residual_file 1) ∷ taken (residual_file 0) ∷ both_ready) ≡ pos 0)
  -- the count alone, of a day before the lag is over and of the next
  pub counts : (residual_count two 9497 ≡ 0) × (residual_count two 9498 ≡ 96)
  -- the last day of all is closed, and no statement is asked for
  pub finished : close_told (record { accounts = 1; lag = 1; horizon = 1; first = 36524; change = 0 }) (closed_day 36524 0 ∷ []) [] ≡ numbered 9 0
  -- the rounding differences returned, together
  pub differences : returned_differences (differing (minus 500) ∷ lacking ∷ refused vesting_file ∷ differing (pos 83) ∷ []) ≡ minus 417
  -- the last row accepted is in force
  pub revised : figure_in (in_force (taken (ncc_file 5) ∷ taken (ncc_file 3) ∷ []) Ncc 0 9497) 0 NccLoad ≡ pos 5
  pub not_revised : figure_in (in_force (refused (ncc_file 5) ∷ taken (ncc_file 3) ∷ []) Ncc 0 9497) 0 NccLoad ≡ pos 3

differences-none : (formula_difference one (taken (both_file 0 first) ∷ []) ≡ pos 0)
    × (formula_difference one (taken (residual_file 0) ∷ taken (ncc_file 0) ∷ taken (both_file 0 second) ∷ closed_day 9497 0 ∷ []) ≡ pos 0)
    × (formula_difference two (taken (residual_file 1) ∷ taken (residual_file 0) ∷ both_ready) ≡ pos 0)
unfolding formula_difference rounding_difference mssl_amount mssl_exact posted_amount exact_amount interval_amount tender_amount vesting_amount vested_quantity hedge_total residual_load rvq edition_share share share_of share_amount residual_amount tranche1 tranche2 settles_residual edition_of reference_price_of reference_price average nearest with_sign in_force latest last_for accepted_rows closes fold file_rows section_rows tabulate num row_end row_pos section_end turns value_at twos_complement number_of figure_of
differences-none = (refl, refl, refl)

pub closes-told : Closes
unfolding close_told residual_count returned_differences first_lacking searched in_force latest last_for accepted_rows closes settles_residual fold or_else file_rows section_rows tabulate num row_end row_pos section_end turns value_at twos_complement number_of figure_of base ring interval_size slot interval_word row_word
closes-told = record {
  no_room = refl;
  nothing = refl;
  nothing_one = refl;
  meter_lacks = refl;
  vesting_lacks = refl;
  next_account = refl;
  refused_file = refl;
  accepted = refl;
  own_first = refl;
  ncc_lacks = refl;
  residual_lacks = refl;
  accepted_again = refl;
  accepted_two = refl;
  no_differences = differences-none;
  second_lacks = refl;
  counts = (refl, refl);
  finished = refl;
  differences = refl;
  revised = refl;
  not_revised = refl;
}

-- ---- New books

-- closed, by their words: N = 2 gives 84, N = 1 gives 76, N = 2 with two words 10
pub record NewBooks : Type 0 where
  pub two_accounts : (lent statement : List ℤ) → 5072 ≤ length lent → 3 ≤ length statement → of_close (closed (new_book two lent) statement).answer ≡ numbered 11 84
  pub one_account : (lent statement : List ℤ) → 2760 ≤ length lent → 2 ≤ length statement → of_close (closed (new_book one lent) statement).answer ≡ numbered 11 76
  pub two_words : (lent statement : List ℤ) → 5072 ≤ length lent → length statement ≡ 2 → of_close (closed (new_book two lent) statement).answer ≡ numbered 10 0

size-one : size one ≡ 2760
unfolding size base ring interval_size
size-one = refl

-- what a new book returns is told from the empty history
new_told : (o : Terms) → InTerms o → (lent statement : List ℤ) → size o ≤ length lent → of_close (closed (new_book o lent) statement).answer ≡ close_told o [] statement
new_told o t lent statement l = (close-tells o t [] (new_book o lent) (new_state o t lent l) statement).answered

told2 : (statement : List ℤ) → ltb (length statement) 3 ≡ false → close_told two [] statement ≡ numbered 11 84
unfolding close_told first_lacking searched in_force closes fold or_else base ring interval_size slot interval_word row_word
told2 statement e = rw e refl

told1 : (statement : List ℤ) → ltb (length statement) 2 ≡ false → close_told one [] statement ≡ numbered 11 76
unfolding close_told first_lacking searched in_force closes fold or_else base ring interval_size slot interval_word row_word
told1 statement e = rw e refl

cramped : (statement : List ℤ) → ltb (length statement) 3 ≡ true → close_told two [] statement ≡ numbered 10 0
unfolding close_told closes
cramped statement e = rw e refl

pub new_books : NewBooks
new_books = record {
  two_accounts = λ lent statement l room. new_told two in_two lent statement (omega (arith, places.size_two)) ∙ told2 statement (le-ltb (length statement) 3 room);
  one_account = λ lent statement l room. new_told one in_one lent statement (omega (arith, size-one)) ∙ told1 statement (le-ltb (length statement) 2 room);
  two_words = λ lent statement l room. new_told two in_two lent statement (omega (arith, places.size_two)) ∙ cramped statement (lt-ltb (length statement) 3 (omega arith));
}
