-- What is proved of the rule book, in one place. Assumes nothing.
use Rattle.std.specs.Prelude.{◌≡◌, ◌≢◌, List, reverse, ℕ, ◌+◌, ◌*◌, ◌≤◌, ◌<◌, ◌-◌, T, ℤ, pos, nat_abs, ◌-ℤ◌, ◌*ℤ◌, length, Ok}
use Rattle.integer.specs.Below.{all, Each}
use Rattle.integer.specs.Words.{word}
use Rattle.integer.specs.Nearest.{IsNearest}
use Rattle.integer.proofs.laws.NearestLaws.{nearest-is}
use Rattle.rulebook.specs.declared.Terms.{Terms}
use Rattle.rulebook.specs.declared.Edition.{Edition}
use Rattle.rulebook.specs.declared.Section.{Section}
use Rattle.rulebook.specs.Units.{last_day, intervals, nearest}
use Rattle.rulebook.specs.Shares.{share_of, share, second_share, ShareTotal, RuleShare, EveryKwh}
use Rattle.rulebook.specs.Tranches.{TrancheSplit}
use Rattle.rulebook.specs.DayAmount.{AccountData, SettlementData, exact_amount, posted_amount, mssl_amount, ReportFigures, IntervalShares, ResidualDayShares, PostedParts, DifferenceParts, mssl_exact}
use Rattle.rulebook.specs.Terms.{InTerms}
use Rattle.rulebook.specs.Sections.{accounts_of}
use Rattle.rulebook.specs.Layout.{ring, slot, size, width, row_word, InWindow}
use Rattle.rulebook.specs.BookData.{next_day, terms_of, entries_of}
use Rattle.rulebook.specs.WellFormed.{days_fit, well_formed}
use Rattle.rulebook.specs.FormedBook.{WindowDay, FormedBook, SlotDay}
use Rattle.rulebook.specs.WindowWalk.{window_slot_fits}
use Rattle.rulebook.specs.Opening.{new_book}
use Rattle.rulebook.specs.File.{file_rows}
use Rattle.rulebook.specs.Judging.{limits_of, judged}
use Rattle.rulebook.specs.Submit.{submitted, entry_or}
use Rattle.rulebook.specs.Close.{closed}
use Rattle.rulebook.specs.Numbers.{Answer, accepted, of_submit, of_close}
use Rattle.rulebook.specs.Calls.{SharesCalled}
use Rattle.rulebook.specs.NamedRows.{NamedRow, named_rows}
use Rattle.rulebook.specs.History.{Call, calls_in, last_for}
use Rattle.rulebook.specs.Promises.{Run, history_of, book_of}
use Rattle.rulebook.specs.Demand3.{Demand3OnCalls, Demand3Holds}
use Rattle.rulebook.specs.Companion.{OpeningHolds, CompanionHolds, KeptFrom}
use Rattle.rulebook.specs.SearchOrder.{SearchHolds}
use Rattle.rulebook.specs.CloseTable.{CloseTable}
use Rattle.rulebook.specs.ProfileTable.{ProfileTable, KeepingAnswered}
use Rattle.rulebook.specs.Leaves.{SubmitLeaves, CloseLeaves, CloseKeeps}
use Rattle.rulebook.specs.Bounds.{CloseSized}
use Rattle.rulebook.proofs.FileTheorems.{FileTheorems, file-theorems}
use Rattle.rulebook.proofs.examples.Figures.{Right, starred, starred-right}
use Rattle.rulebook.proofs.examples.WorkedDay.{WorkedDay, worked-day}
use Rattle.rulebook.proofs.examples.Examples.{RowExamples, row-examples, Headers, headers, Balances, balances, Differences, differences, AccountWords, account-words, Ranges, ranges}
use Rattle.rulebook.proofs.examples.AmountExamples.{BoundReached, bound_reached, DifferenceReached, difference_reached, ResidualOfThree, residual-of_three, ReportOfThree, report-of_three, LagOfTwo, lag-of_two}
use Rattle.rulebook.proofs.examples.LayoutExamples.{Places, places, NewHeader, new_header, Windows, windows}
use Rattle.rulebook.proofs.examples.BookExamples.{Days, days}
use Rattle.rulebook.proofs.examples.FileExamples.{BytesRead, bytes_read, FiguresRead, figures-read}
use Rattle.rulebook.proofs.examples.DataExamples.{BookRead, book-read, RowsRead, rows-read}
use Rattle.rulebook.proofs.examples.NumberExamples.{Returned, returned}
use Rattle.rulebook.proofs.examples.InputExamples.{CallsTold, calls_told}
use Rattle.rulebook.proofs.examples.ProfileExamples.{ProfilesTold, profiles-told}
use Rattle.rulebook.proofs.examples.CallExamples.{Openings, openings, LentBooks, lent-books}
use Rattle.rulebook.proofs.examples.SubmitExamples.{StoredRows, stored-rows, OverNines, over_nines, SubmittedFile, submitted-file}
use Rattle.rulebook.proofs.examples.HistoryExamples.{Closes, closes-told, NewBooks, new_books}
use Rattle.rulebook.proofs.examples.EditionExamples.{SecondShares, second-shares, Editions, editions}
use Rattle.rulebook.proofs.examples.SearchExamples.{SearchedFlags, searched-flags}
use Rattle.rulebook.proofs.laws.SharesLaws.{share-total, share-rule}
use Rattle.rulebook.proofs.laws.SecondShareLaws.{every-kwh}
use Rattle.rulebook.proofs.laws.CallsLaws.{shares-called}
use Rattle.rulebook.proofs.laws.TranchesLaws.{tranche-split}
use Rattle.rulebook.proofs.laws.ReportLaws.{report-figures}
use Rattle.rulebook.proofs.laws.DayAmountLaws.{interval-shares, residual-day_shares, posted-parts, difference-parts, posted-within, mssl-within}
use Rattle.rulebook.proofs.laws.WalkLaws.{days-are_places}
use Rattle.rulebook.proofs.laws.WindowLaws.{window-days_apart, slot-day}
use Rattle.rulebook.proofs.laws.FormedBookLaws.{formed-book, book-formed}
use Rattle.rulebook.proofs.laws.BookSizeLaws.{close-sized}
use Rattle.rulebook.proofs.laws.SearchOrderLaws.{search-holds}
use Rattle.rulebook.proofs.laws.CloseTableLaws.{close-table}
use Rattle.rulebook.proofs.laws.ProfileTableLaws.{profile-table, keeping_answered}
use Rattle.rulebook.proofs.laws.AnySubmitLaws.{submitted-formed}
use Rattle.rulebook.proofs.laws.AnyCloseLaws.{closed-formed}
use Rattle.rulebook.proofs.laws.LentLaws.{submitted-beyond, closed-words_beyond, submitted-rows, refused-submit, refused-close}
use Rattle.rulebook.proofs.laws.LeavesLaws.{submitted-leaves, closed-leaves}
use Rattle.rulebook.proofs.laws.DeterminedLaws.{submit-determined, close-determined}
use Rattle.rulebook.proofs.laws.StartLaws.{opening-told, new_formed}
use Rattle.rulebook.proofs.laws.RunLaws.{run_of, calls_of}
use Rattle.rulebook.proofs.laws.Demand3Proof.{demand3, demand3-on_calls}
use Rattle.rulebook.proofs.laws.CompanionProof.{companion}

pub record Theorems : Type 0 where
  -- ---- Calls on a book

  -- what an opening answers and leaves; a new book is well formed
  pub opening : OpeningHolds
  pub new_formed : (o : Terms) → InTerms o → (lent : List ℤ) → size o ≤ length lent → T (well_formed (new_book o lent))
  -- on every list of calls after an accepted opening: balances, total, rounding differences, residual counts, 11 exactly when
  pub demand3 : Demand3OnCalls
  -- the same on every run of calls that keep their promises; every list of calls is such a run, and its history has these calls
  pub demand3_on_runs : Demand3Holds
  pub every_list : (start : List ℤ) (calls : List Call) → Run start (history_of start calls) (book_of start calls)
  pub these_calls : (start : List ℤ) (calls : List Call) → calls_in (history_of start calls) ≡ reverse calls
  -- on the same runs: each call's whole answer, statement, and what is kept
  pub companion : CompanionHolds
  -- ---- A submission file

  -- taken whole; each of 4 to 8 exactly by the table's condition; fields end to end
  pub files : FileTheorems
  -- ---- Any well-formed lent book

  -- well formed is what document 01 says, in its figures, and nothing more
  pub formed_says : (w : List ℤ) → T (well_formed w) → FormedBook (terms_of w) (next_day w) w
  pub says_formed : (o : Terms) (C : ℕ) (w : List ℤ) → FormedBook o C w → T (well_formed w)
  -- its word 8 is within 500 × N × (C − F) either way (document 02, P5)
  pub word_8_within : (w : List ℤ) → T (well_formed w) → nat_abs (word w 8) ≤ 500 * (terms_of w).accounts * (next_day w - (terms_of w).first)
  -- stays well formed, and keeps its words beyond the size
  pub submit_keeps : (w : List ℤ) (file : List ℕ) → T (well_formed w) → T (well_formed (submitted w file).words)
  pub close_keeps : (w statement : List ℤ) → T (well_formed w) → T (well_formed (closed w statement).words)
  -- an accepted row replaces all it names: each word of each day of the window is the last row's, or as it was
  pub submit_stores : (w : List ℤ) (file : List ℕ) → T (well_formed w) → judged (limits_of (terms_of w) (next_day w)) file ≡ (Ok tt)
      → (s : Section) (a d i j : ℕ) → InWindow (terms_of w) (next_day w - (terms_of w).first) d → a < accounts_of s (terms_of w).accounts → i < intervals → j < width s
      → word (submitted w file).words (row_word (terms_of w) s a d i j) ≡ entry_or (last_for (file_rows file) s a d) (entries_of (terms_of w) w s a d) i j
  -- every word that an accepted file or close leaves, by its index: what is replaced, what grows, what is blanked, and that all else is as it was; the close's
  -- statement, day, count and difference
  pub submit_leaves : (w : List ℤ) (file : List ℕ) → (of_submit (submitted w file).answer).number ≡ accepted → SubmitLeaves (terms_of w) (named_rows file) w (submitted w file).words
  pub close_leaves : (w statement : List ℤ) → (of_close (closed w statement).answer).number ≡ accepted
      → CloseLeaves (terms_of w) (next_day w) w statement (of_close (closed w statement).answer) (closed w statement).words (closed w statement).statement
  -- that leaves nothing open: what two outcomes so described leave, of one book before, is the same
  pub submit_determined : (o : Terms) (rows : List NamedRow) (before after after' : List ℤ) → SubmitLeaves o rows before after → SubmitLeaves o rows before after' → after ≡ after'
  pub close_determined : (o : Terms) (C : ℕ) (before statement : List ℤ) (answer answer' : Answer) (after after' written written' : List ℤ)
      → CloseLeaves o C before statement answer after written → CloseLeaves o C before statement answer' after' written'
      → (after ≡ after') × (written ≡ written') × (answer ≡ answer')
  -- a refusal keeps every word, of any book
  pub submit_refused : (w : List ℤ) (file : List ℕ) → (of_submit (submitted w file).answer).number ≢ accepted → (submitted w file).words ≡ w
  pub close_refused : (w statement : List ℤ) → (of_close (closed w statement).answer).number ≢ accepted → ((closed w statement).words ≡ w) × ((closed w statement).statement ≡ statement)
  pub submit_beyond : (w : List ℤ) (file : List ℕ) → T (well_formed w) → KeptFrom (size (terms_of w)) w (submitted w file).words
  pub close_beyond : (w statement : List ℤ) → T (well_formed w) → CloseKeeps w statement
  -- data and amounts in range, balances and the rounding differences' sum too
  pub close_sized : (w : List ℤ) → T (well_formed w) → next_day w ≤ last_day → CloseSized w
  -- of any book, a close returns 3 exactly if it is not well formed; else 9 and 10 exactly by the table
  pub close_table : (w statement : List ℤ) → CloseTable w statement
  -- 11 is at the first flag in search order that is zero, and 0 is returned if none is
  pub search : SearchHolds
  -- ---- Profiles

  -- of any list, T and D: 1, 15, yes and no, each exactly when; a profile that keeps the limits, wherever 0 is returned
  pub profiles : (profile : List ℤ) (t d : ℤ) → ProfileTable profile t d
  pub keeping_answered : KeepingAnswered
  -- ---- The ring

  -- two days of the window share no slot; every slot is of exactly one day of the window or of none
  pub days_apart : (o : Terms) (C : ℕ) → 1 ≤ o.horizon → o.first ≤ C → (d d' : ℕ) → WindowDay o C d → WindowDay o C d' → slot o d ≡ slot o d' → d ≡ d'
  pub slot_day : (o : Terms) (C : ℕ) → 1 ≤ o.horizon → o.first ≤ C → (v : ℕ) → v < ring o → SlotDay o C v
  -- well formed by days is well formed place by place
  pub days_are_places : (o : Terms) (w : List ℤ) (k : ℕ) → 1 ≤ o.horizon → days_fit o w (o.first + k) ≡ all (ring o) (window_slot_fits o w k)
  -- ---- Roundings, shares and what is posted: each is the property that a reader knows

  pub nearest_is : (z : ℤ) (d : ℕ) → 0 < d → IsNearest z d (nearest z d)
  pub share_rule : (r : ℤ) (s u : ℕ) → 0 < s → RuleShare r s u (share_of r s u)
  pub share_total : (r : ℤ) (n : ℕ) (uegq : ℕ → ℕ) → ShareTotal (share r n uegq) r n uegq
  -- the second edition's use every kWh
  pub every_kwh : (r : ℤ) (n : ℕ) (uegq : ℕ → ℕ) → EveryKwh (second_share r n uegq) r n uegq
  -- the partial figures of the holders' reports, the last of which R takes from the load
  pub report_figures : (n : ℕ) (x : ℕ → AccountData) → ReportFigures n x
  -- an interval's, of either edition; and of each residual day by its own
  pub interval_shares : (load n : ℕ) (x : ℕ → AccountData) (e : Edition) → IntervalShares load n x e
  pub residual_day_shares : (o : Terms) (x : SettlementData) (r i : ℕ) → ResidualDayShares o x r i
  -- what the two calls write
  pub shares_called : (r : ℤ) (uegq output : List ℤ) → SharesCalled r uegq output
  pub tranches : (rvq bvq mq : ℕ) → TrancheSplit rvq bvq mq
  -- what is posted: the nearest cent to the day's sum, of the residual day's shares by its edition; and the exact amount, which is that sum
  pub posted_parts : (o : Terms) (x : SettlementData) (a D : ℕ) → PostedParts o x a D
  -- the rounding difference is what rounding leaves of each account's amount, together, within N × 500 (document 02, P5)
  pub difference_parts : (o : Terms) (x : SettlementData) (D : ℕ) → DifferenceParts o x D
  -- posted cents are within 500 thousandths of the exact amount, the MSSL's within N × 500
  pub posted_within : (o : Terms) (x : SettlementData) (D a : ℕ) → nat_abs (pos 1000 *ℤ posted_amount o x a D -ℤ exact_amount o x a D) ≤ 500
  pub mssl_within : (o : Terms) (x : SettlementData) (D : ℕ) → nat_abs (pos 1000 *ℤ mssl_amount o x D -ℤ mssl_exact o x D) ≤ o.accounts * 500
  -- ---- Figures and examples

  -- the starred figures, a day worked by hand, the bounds of a day reached
  pub starred_right : Each Right starred
  pub worked_day : WorkedDay
  pub bound_reached : BoundReached
  pub difference_reached : DifferenceReached
  -- R of three accounts, and the figures of their report; the residual day two days back
  pub residual_of_three : ResidualOfThree
  pub report_of_three : ReportOfThree
  pub lag_of_two : LagOfTwo
  -- shares of the second edition, residual days on each side of X
  pub second_shares : SecondShares
  pub editions : Editions
  -- ranges, rows, headers, every word's index, the window, figures by name
  pub ranges : Ranges
  pub rows : RowExamples
  pub headers : Headers
  pub new_header : NewHeader
  pub places : Places
  pub windows : Windows
  pub balances : Balances
  pub differences : Differences
  pub account_words : AccountWords
  pub days : Days
  pub bytes_read : BytesRead
  pub figures_read : FiguresRead
  pub book_read : BookRead
  pub rows_read : RowsRead
  -- the table of numbers
  pub returned : Returned
  -- the calls on no book, and openings
  pub calls_told : CallsTold
  pub profiles_told : ProfilesTold
  pub openings : Openings
  pub lent_books : LentBooks
  -- what a row, and a file, leaves in the book's words, by index
  pub stored_rows : StoredRows
  pub over_nines : OverNines
  pub submitted_file : SubmittedFile
  -- closes after short histories
  pub closes : Closes
  pub new_books : NewBooks
  -- the search by index, through accounts and intervals
  pub searched_flags : SearchedFlags

pub theorems : Theorems
theorems = record {
  opening = opening-told;
  new_formed = new_formed;
  demand3 = demand3-on_calls;
  demand3_on_runs = demand3;
  every_list = run_of;
  these_calls = calls_of;
  companion = companion;
  files = file-theorems;
  formed_says = formed-book;
  says_formed = book-formed;
  word_8_within = λ w t. (formed-book w t).differences;
  submit_keeps = submitted-formed;
  close_keeps = closed-formed;
  submit_stores = submitted-rows;
  submit_leaves = submitted-leaves;
  close_leaves = closed-leaves;
  submit_determined = submit-determined;
  close_determined = close-determined;
  submit_refused = refused-submit;
  close_refused = refused-close;
  submit_beyond = submitted-beyond;
  close_beyond = closed-words_beyond;
  close_sized = close-sized;
  close_table = close-table;
  search = search-holds;
  profiles = profile-table;
  keeping_answered = keeping_answered;
  days_apart = window-days_apart;
  slot_day = slot-day;
  days_are_places = days-are_places;
  nearest_is = nearest-is;
  share_rule = share-rule;
  share_total = share-total;
  every_kwh = every-kwh;
  report_figures = report-figures;
  interval_shares = interval-shares;
  residual_day_shares = residual-day_shares;
  shares_called = shares-called;
  tranches = tranche-split;
  posted_parts = posted-parts;
  difference_parts = difference-parts;
  posted_within = posted-within;
  mssl_within = mssl-within;
  starred_right = starred-right;
  worked_day = worked-day;
  bound_reached = bound_reached;
  difference_reached = difference_reached;
  residual_of_three = residual-of_three;
  report_of_three = report-of_three;
  lag_of_two = lag-of_two;
  second_shares = second-shares;
  editions = editions;
  ranges = ranges;
  rows = row-examples;
  headers = headers;
  new_header = new_header;
  places = places;
  windows = windows;
  balances = balances;
  differences = differences;
  account_words = account-words;
  days = days;
  bytes_read = bytes_read;
  figures_read = figures-read;
  book_read = book-read;
  rows_read = rows-read;
  returned = returned;
  calls_told = calls_told;
  profiles_told = profiles-told;
  openings = openings;
  lent_books = lent-books;
  stored_rows = stored-rows;
  over_nines = over_nines;
  submitted_file = submitted-file;
  closes = closes-told;
  new_books = new_books;
  searched_flags = searched-flags;
}
