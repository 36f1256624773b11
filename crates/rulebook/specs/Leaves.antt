-- Document 01, "Close" and "A submission file": what an accepted call leaves of a lent book, word by word. Every index is in its figures, and every index
-- is one of those named or among `others`; LeavesLaws joins this with the calls. Assumes nothing.
use Rattle.std.specs.Prelude.{◌≡◌, ◌≢◌, List, [], ◌∷◌, ℕ, ◌+◌, ◌-◌, ◌*◌, ◌%◌, ◌≤◌, ◌<◌, ℤ, pos, neg_ℤ, ◌+ℤ◌, ◌-ℤ◌, ◌*ℤ◌, length}
use Rattle.integer.specs.Below.{sum_ℤ, Each}
use Rattle.integer.specs.Words.{word}
use Rattle.rulebook.specs.declared.Section.{Section}
use Rattle.rulebook.specs.declared.Section.TheVariants.{Vesting, Meter, Residual, Ncc}
use Rattle.rulebook.specs.declared.Terms.{Terms}
use Rattle.rulebook.specs.DayAmount.{posted_amount, mssl_exact}
use Rattle.rulebook.specs.Sections.{Figure, BVQ, BVP, TVQ, TVP, MEP, IEQ, UEGQ, MQ, RVP1, RVP2, NccLoad}
use Rattle.rulebook.specs.Layout.{size}
use Rattle.rulebook.specs.BookData.{book_data, terms_of}
use Rattle.rulebook.specs.Close.{closed}
use Rattle.rulebook.specs.Numbers.{Answer}
use Rattle.rulebook.specs.NamedRows.{NamedRow}
use Rattle.rulebook.specs.Companion.{KeptFrom}

-- the index of word m of interval i of day d, whose slot is (d − F) mod (L + H)
abbrev pub day_index : Terms → ℕ → ℕ → ℕ → ℕ
day_index o d i m = 64 + 8 * o.accounts + (((d - o.first) % (o.lag + o.horizon) * 48 + i) * (4 + 24 * o.accounts) + m)

-- ---- An accepted close

-- of a book with these terms, C the next day to close: its answer, the book after it, the statement as written
pub record CloseLeaves (o : Terms) (C : ℕ) (before statement : List ℤ) (answer : Answer) (after written : List ℤ) : Type 0 where
  -- 0, the day, the residual count: 48N if r = C − L is not before F, else 0; the rounding difference: 1,000 times what the MSSL's word of the statement says,
  -- less its exact amount
  pub number : answer.number ≡ 0
  pub position : answer.position ≡ 0
  pub day : answer.day ≡ C
  pub residuals : o.first + o.lag ≤ C → answer.count ≡ 48 * o.accounts
  pub no_residuals : C < o.first + o.lag → answer.count ≡ 0
  pub difference : answer.difference ≡ pos 1000 *ℤ word written o.accounts -ℤ mssl_exact o (book_data o before) C
  -- the statement: formula amounts, then the MSSL's, minus their sum; words beyond kept
  pub amounts : (a : ℕ) → a < o.accounts → word written a ≡ posted_amount o (book_data o before) a C
  pub mssl_amount : word written o.accounts ≡ neg_ℤ (sum_ℤ o.accounts (word written))
  pub beyond : KeptFrom (o.accounts + 1) statement written
  -- C rises by one, balances grow by the statement's words, word 8 by the difference returned, r's slot is blank if r is not before F
  pub next_day : word after 5 ≡ word before 5 +ℤ pos 1
  pub mssl : word after 6 ≡ word before 6 +ℤ word written o.accounts
  pub differences : word after 8 ≡ word before 8 +ℤ answer.difference
  pub balances : (a : ℕ) → a < o.accounts → word after (64 + 8 * a) ≡ word before (64 + 8 * a) +ℤ word written a
  pub blank : o.first + o.lag ≤ C → (i m : ℕ) → i < 48 → m < 4 + 24 * o.accounts → word after (day_index o (C - o.lag) i m) ≡ pos 0
  -- every other word is as it was, and no word comes or goes
  pub others : (n : ℕ) → n ≢ 5 → n ≢ 6 → n ≢ 8 → ((a : ℕ) → a < o.accounts → n ≢ 64 + 8 * a)
      → (o.first + o.lag ≤ C → (i m : ℕ) → i < 48 → m < 4 + 24 * o.accounts → n ≢ day_index o (C - o.lag) i m) → word after n ≡ word before n
  pub long : length after ≡ length before

-- ---- An accepted file

-- what a row puts into its words at an interval, f being its figures there: flag and figures, zero where the row lacks one
abbrev pub words_of : Section → ℕ → (Figure → ℤ) → List ℤ
words_of Vesting tranches f = pos (1 + tranches) ∷ f BVQ ∷ f BVP ∷ f (TVQ 0) ∷ f (TVP 0) ∷ f (TVQ 1) ∷ f (TVP 1) ∷ f (TVQ 2) ∷ f (TVP 2) ∷ []
words_of Meter facilities f = pos facilities ∷ f (MEP 0) ∷ f (IEQ 0) ∷ f (MEP 1) ∷ f (IEQ 1) ∷ f (MEP 2) ∷ f (IEQ 2) ∷ f (MEP 3) ∷ f (IEQ 3) ∷ []
words_of Residual count f = pos 1 ∷ f UEGQ ∷ f MQ ∷ f RVP1 ∷ f RVP2 ∷ []
words_of Ncc count f = f NccLoad ∷ pos 1 ∷ []

-- how many they are, and where the first stands in the interval
abbrev pub word_count : Section → ℕ
word_count Vesting = 9
word_count Meter = 9
word_count Residual = 5
word_count Ncc = 2

abbrev pub place_of : Section → ℕ → ℕ
place_of Vesting a = 4 + 24 * a
place_of Meter a = 13 + 24 * a
place_of Residual a = 22 + 24 * a
place_of Ncc a = 0

-- the index of a row's word j at interval i
abbrev pub row_index : Terms → NamedRow → ℕ → ℕ → ℕ
row_index o r i j = day_index o r.day i (place_of r.section r.account + j)

-- all that row r names is as it says
abbrev pub Replaced : Terms → List ℤ → NamedRow → Type 0
Replaced o after r = (i j : ℕ) → i < 48 → j < word_count r.section → word after (row_index o r i j) ≡ word (words_of r.section r.count (r.figure i)) j

-- row r does not name the word at n
abbrev pub NotNamed : Terms → ℕ → NamedRow → Type 0
NotNamed o n r = (i j : ℕ) → i < 48 → j < word_count r.section → n ≢ row_index o r i j

-- of a book with these terms, that took a file of these rows
pub record SubmitLeaves (o : Terms) (rows : List NamedRow) (before after : List ℤ) : Type 0 where
  -- each row replaces all it names
  pub replaced : Each (Replaced o after) rows
  -- every word that no row names is as it was, and no word comes or goes
  pub others : (n : ℕ) → Each (NotNamed o n) rows → word after n ≡ word before n
  pub long : length after ≡ length before

-- ---- Any close

-- accepted or not, of a well-formed book: the words beyond the book, and beyond a statement, are as they were
pub record CloseKeeps (w statement : List ℤ) : Type 0 where
  pub book : KeptFrom (size (terms_of w)) w (closed w statement).words
  pub written : KeptFrom ((terms_of w).accounts + 1) statement (closed w statement).statement
