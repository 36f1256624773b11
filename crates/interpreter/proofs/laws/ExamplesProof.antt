-- The program prints what the examples say. Assumes nothing.
use Rattle.std.specs.Prelude.{◌≡◌, refl, true, false, List, [], ◌∷◌, ◌++◌, ℕ, suc, ◌+◌, ◌≤◌, ◌<◌, ℤ, pos, neg_ℤ, length, take, drop}
use Rattle.std.proofs.Common.{sym, ap, ◌∙◌, subst, arith}
use borrow.Author.Tests.{lt-ltb, le-ltb, le-leb}
use Rattle.std.proofs.lemmas.List.{length-replicate}
use Rattle.integer.specs.Words.{part, word}
use Rattle.integer.specs.Below.{fold, sum_ℤ, or_else, tabulate, turns}
use Rattle.integer.specs.Integer.{twos_complement, minus, with_sign}
use Rattle.rulebook.specs.declared.Terms.{Terms}
use Rattle.rulebook.specs.Units.{nearest}
use Rattle.rulebook.specs.ReferencePrice.{average, reference_price}
use Rattle.rulebook.specs.Shares.{share, edition_share}
use Rattle.rulebook.specs.DayAmount.{reference_price_of, vested_quantity, tender_amount, vesting_amount, residual_load, rvq, residual_amount, settles_residual, edition_of, interval_amount, exact_amount, posted_amount}
use Rattle.rulebook.specs.Terms.{terms_fit}
use Rattle.rulebook.specs.Layout.{base, ring, interval_size, size, slot, interval_word, row_word}
use Rattle.rulebook.specs.File.{num, value_at, row_end, row_pos, section_end, section_rows, file_rows, number_of, figure_of}
use Rattle.rulebook.specs.Judging.{field_in, value, key, given, rest, row_after, judged_row, judged_section, judged}
use Rattle.rulebook.specs.Opening.{new_book, opened}
use Rattle.rulebook.specs.Submit.{submitted}
use Rattle.rulebook.specs.Close.{closed}
use Rattle.rulebook.specs.declared.Answer.{Answer}
use Rattle.rulebook.specs.Close.{searched, residual_count}
use Rattle.rulebook.specs.Numbers.{numbered}
use Rattle.rulebook.specs.History.{Event, submit, closes, latest, last_for, accepted_rows, in_force, formula_amount, formula_difference}
use Rattle.rulebook.specs.Companion.{submit_told, first_lacking, close_told}
use Rattle.rulebook.proofs.examples.Examples.{one, two, in_one, in_two, zeros}
use Rattle.rulebook.proofs.examples.LayoutExamples.{places}
use Rattle.rulebook.proofs.laws.StartLaws.{new_state}
use Rattle.rulebook.specs.Ledger.{State}
use Rattle.rulebook.proofs.laws.StateLaws.{submit-step}
use Rattle.rulebook.proofs.laws.CompanionProof.{submit-tells, close-tells}
use Rattle.console.specs.declared.input.Item.TheVariants.{Close, Submit, Bad}
use Rattle.console.specs.Decimal.{digits_within, decimal, signed_decimal}
use Rattle.console.specs.Input.{file_whole, item_of, wanted}
use Rattle.console.specs.Lines.{spaced, line_of, answer_line, open_line, submit_line, closed_line, close_line, bad_line}
use Rattle.interpreter.proofs.laws.PrintedLaws.{printed-bad, printed-end, printed-submit, printed-close}
use Rattle.interpreter.specs.Interpreter.{opened_by, beginning, new_statement, printed_from, new_words, printed}
use Rattle.interpreter.proofs.examples.InterpreterExamples.{opening, opening_of, day_file, day_input, open_number, open_text, submit_text, close_text, closed_text, bad_text, bad_late, Prints}

-- ---- The opening

many : length new_words ≡ 5072
many = length-replicate 5072 (pos 0)

-- terms that are in range: a book that fits, and one that is too large
module _ (n l h : ℕ) (rest : List ℕ) where
  abbrev terms : Terms
  terms = record { accounts = n; lag = l; horizon = h; first = 9497; change = 0 }

  abbrev bytes : List ℕ
  bytes = n ∷ l ∷ h ∷ 0x19 ∷ 0x25 ∷ rest

  fits : terms_fit terms ≡ true → size terms ≤ 5072 → beginning new_words bytes ≡ record { line = open_text []; book = new_book terms new_words; accounts = n; position = 5; more = true }
  unfolding beginning opened_by opened num digits_within decimal spaced line_of answer_line open_line
  fits t k = rw (le-leb 5 (length bytes) (omega arith), t, le-ltb (length new_words) (size terms) (omega (arith, many)))

  large : terms_fit terms ≡ true → 5072 < size terms → beginning new_words bytes ≡ record { line = open_number 50 []; book = new_words; accounts = 0; position = 5; more = false }
  unfolding beginning opened_by opened num digits_within decimal spaced line_of answer_line open_line
  large t k = rw (le-leb 5 (length bytes) (omega arith), t, lt-ltb (length new_words) (size terms) (omega (arith, many)))

  opened-on : terms_fit terms ≡ true → size terms ≤ 5072 → printed bytes ≡ open_text (printed_from (length bytes) n 5 (new_book terms new_words) bytes)
  unfolding printed
  opened-on t k = rw (fits t k)

  opened-large : terms_fit terms ≡ true → 5072 < size terms → printed bytes ≡ open_number 50 []
  unfolding printed
  opened-large t k = rw (large t k)

-- ---- A new book of one account

abbrev book : List ℤ
book = new_book one new_words

small : size one ≡ 2760
unfolding size base ring interval_size
small = refl

new : State one [] book
new = new_state one in_one new_words (omega (arith, many, small))

opened_one : (rest : List ℕ) → printed (opening rest) ≡ open_text (printed_from (length (opening rest)) 1 5 book (opening rest))
unfolding terms_fit
opened_one rest = opened-on 1 1 1 rest refl (omega (arith, small))

bad-after : (rest : List ℕ) (k digit : ℕ) → item_of rest ≡ Bad k → bad_line (5 + k) ≡ bad_text digit → printed (opening rest) ≡ open_text (bad_text digit)
bad-after rest k digit e d = opened_one rest ∙ ap open_text (printed-bad _ 1 5 book (opening rest) k e ∙ d)

-- `close 11 76`
missing : (amounts : List ℤ) → close_line (close_told one [] new_statement) amounts ≡ close_text []
unfolding close_told first_lacking searched in_force closes fold or_else base ring interval_size slot interval_word row_word digits_within decimal spaced line_of answer_line close_line
missing amounts = refl

close-first : (n position : ℕ) (s : List ℕ) → item_of (drop position s) ≡ Close
    → printed_from (suc n) 1 position book s ≡ close_text (printed_from n 1 (position + wanted (drop position s)) (closed book new_statement).words s)
close-first n position s e = printed-close one in_one [] book new n position s e ∙ rw missing refl

-- ---- Files

-- its number and position
submit-first : (n position : ℕ) (s file : List ℕ) (k : ℕ) (number digit : ℕ) → item_of (drop position s) ≡ Submit k → part (drop position s) 3 k ≡ file
    → submit_line (submit_told one [] file) ≡ submit_text number digit []
    → printed_from (suc n) 1 position book s ≡ submit_text number digit (printed_from n 1 (position + wanted (drop position s)) (submitted book file).words s)
submit-first n position s file k number digit e f d = printed-submit one in_one [] book new n position s k e ∙ rw (f, d) refl

zeros-told : (submit_line (submit_told one [] (zeros 8)) ≡ submit_text 48 48 []) × (submit_line (submit_told one [] (zeros 2)) ≡ submit_text 52 50 [])
unfolding judged judged_section fold num row_pos section_end turns digits_within decimal spaced line_of answer_line submit_line
zeros-told = (refl, refl)

-- a refused file leaves the book as it was
two-refused : (submitted book (zeros 2)).words ≡ book
unfolding judged judged_section fold num row_pos section_end turns
two-refused = let c = submit-tells one in_one [] book new (zeros 2) in c.refused (λ e. let z = sym (ap (λ (a : Answer). a.number) c.answered) ∙ e in absurd (omega (arith, z)))

-- ---- A day of two accounts

abbrev book_of_two : List ℤ
book_of_two = new_book two new_words

new_two : State two [] book_of_two
new_two = new_state two in_two new_words (omega (arith, many, places.size_two))

day-judged : submit_told two [] day_file ≡ numbered 0 0
unfolding judged judged_section judged_row row_after rest given key field_in value fold num row_end row_pos section_end turns value_at twos_complement closes
day-judged = refl

abbrev history : List Event
history = record { call = submit day_file; answer = numbered 0 0 } ∷ []

abbrev day_book : List ℤ
day_book = (submitted book_of_two day_file).words

day-state : State two history day_book
day-state = subst (λ (a : Answer). State two (record { call = submit day_file; answer = a } ∷ []) day_book)
    ((submit-tells two in_two [] book_of_two new_two day_file).answered ∙ day-judged) (submit-step two in_two [] book_of_two new_two day_file)

abbrev day_answer : Answer
day_answer = record { number = 0; position = 0; day = 9497; count = 0; difference = formula_difference two history }

day-closed : close_told two history new_statement ≡ day_answer
unfolding close_told first_lacking searched residual_count in_force latest last_for accepted_rows closes settles_residual fold or_else file_rows section_rows tabulate num row_end row_pos section_end turns value_at twos_complement number_of figure_of base ring interval_size slot interval_word row_word
day-closed = refl

-- the accounts' amounts, and the MSSL's
day-amount : (formula_amount two history 0 ≡ pos 2000) × (formula_amount two history 1 ≡ minus 7)
unfolding formula_amount posted_amount exact_amount interval_amount tender_amount vesting_amount vested_quantity residual_load rvq edition_share share residual_amount settles_residual edition_of reference_price_of reference_price average nearest with_sign in_force latest last_for accepted_rows closes fold file_rows section_rows tabulate num row_end row_pos section_end turns value_at twos_complement number_of figure_of
day-amount = (refl, refl)

day-mssl : neg_ℤ (sum_ℤ 2 (formula_amount two history)) ≡ minus 1993
unfolding fold
day-mssl = rw (day-amount.0, day-amount.1) refl

first_three : (st : List ℤ) {x y z : ℤ} → length st ≡ 33 → word st 0 ≡ x → word st 1 ≡ y → word st 2 ≡ z → take 3 st ≡ x ∷ y ∷ z ∷ []
first_three [] e a b c = absurd (omega arith)
first_three (x ∷ []) e a b c = absurd (omega arith)
first_three (x ∷ y ∷ []) e a b c = absurd (omega arith)
first_three (x ∷ y ∷ z ∷ st) e a b c = cc

day-amounts : take 3 (closed day_book new_statement).statement ≡ pos 2000 ∷ minus 7 ∷ minus 1993 ∷ []
day-amounts =
    let c = close-tells two in_two history day_book day-state new_statement in
    let k = ap (λ (a : Answer). a.number) (c.answered ∙ day-closed) in
    first_three (closed day_book new_statement).statement (c.statement_beyond.long ∙ length-replicate 33 (pos 0))
    (c.amounts k 0 (omega arith) ∙ day-amount.0) (c.amounts k 1 (omega arith) ∙ day-amount.1) (c.mssl k ∙ day-mssl)

day-text : (close_line day_answer (pos 2000 ∷ minus 7 ∷ minus 1993 ∷ []) ≡ closed_text []) × (submit_line (numbered 0 0) ≡ submit_text 48 48 [])
unfolding digits_within decimal signed_decimal spaced line_of answer_line submit_line closed_line close_line
day-text = (refl, refl)

day-line : close_line (close_told two history new_statement) (take 3 (closed day_book new_statement).statement) ≡ closed_text []
day-line = ap (λ (a : Answer). close_line a (take 3 (closed day_book new_statement).statement)) day-closed ∙ ap (close_line day_answer) day-amounts ∙ day-text.0

day-submitted : printed_from 1570 2 5 book_of_two day_input ≡ submit_text 48 48 (printed_from 1569 2 1568 day_book day_input)
unfolding item_of file_whole wanted num
day-submitted = printed-submit two in_two [] book_of_two new_two 1569 5 day_input 1560 refl ∙ rw (ap submit_line day-judged ∙ day-text.1) refl

day-printed : printed day_input ≡ open_text (submit_text 48 48 (closed_text bad_late))
unfolding terms_fit item_of file_whole wanted num digits_within decimal spaced line_of bad_line
day-printed =
    opened-on 2 1 1 (0x53 ∷ 0x18 ∷ 0x06 ∷ day_file ++ (0x43 ∷ 0x00 ∷ [])) refl (omega (arith, places.size_two))
    ∙ ap open_text (day-submitted
    ∙ ap (submit_text 48 48) (printed-close two in_two history day_book day-state 1568 1568 day_input refl
    ∙ rw day-line (ap closed_text (printed-bad 1567 2 1569 (closed day_book new_statement).words day_input 0 refl))))

-- ---- All

pub prints : Prints
unfolding printed beginning opened_by opened terms_fit size base ring interval_size item_of wanted file_whole num digits_within decimal spaced line_of answer_line open_line bad_line
prints = record {
  rehearsal = opened_one (0x43 ∷ []) ∙ ap open_text (close-first 5 5 (opening (0x43 ∷ [])) refl ∙ ap close_text (printed-end 4 1 6 (closed book new_statement).words (opening (0x43 ∷ [])) refl));
  book_words = many;
  two_accounts = opened-on 2 1 1 [] refl (omega arith) ∙ ap open_text (printed-end 4 2 5 _ (opening_of 2 1 1) refl);
  longer_ring = opened-large 1 2 2 [] refl (omega arith);
  three_accounts = opened-large 3 1 1 [] refl (omega arith);
  uncut = omega arith;
  lag = refl;
  horizon = opened-large 1 1 76 [] refl (omega arith);
  nothing = refl;
  four_bytes = refl;
  refused = refl;
  unknown = bad-after (0x00 ∷ 0x43 ∷ []) 0 53 refl refl;
  no_length = bad-after (0x53 ∷ 0x00 ∷ []) 1 54 refl refl;
  no_file = bad-after (0x53 ∷ 0x02 ∷ 0x00 ∷ 0x00 ∷ []) 1 54 refl refl;
  over_long = bad-after (0x53 ∷ 0x01 ∷ 0x40 ∷ []) 1 54 refl refl;
  eight_zeros =
      let s : List ℕ = opening (0x53 ∷ 0x08 ∷ 0x00 ∷ zeros 8) in
      opened_one (0x53 ∷ 0x08 ∷ 0x00 ∷ zeros 8)
      ∙ ap open_text (submit-first 15 5 s (zeros 8) 8 48 48 refl refl zeros-told.0 ∙ ap (submit_text 48 48) (printed-end 14 1 16 (submitted book (zeros 8)).words s refl));
  two_zeros =
      let rest : List ℕ = 0x53 ∷ 0x02 ∷ 0x00 ∷ 0x00 ∷ 0x00 ∷ 0x43 ∷ [] in
      opened_one rest
      ∙ ap open_text (submit-first 10 5 (opening rest) (zeros 2) 2 52 50 refl refl zeros-told.1
      ∙ ap (submit_text 52 50) (rw two-refused (close-first 9 10 (opening rest) refl ∙ ap close_text (printed-end 8 1 11 (closed book new_statement).words (opening rest) refl))));
  day = day-printed;
}
