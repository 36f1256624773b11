-- Between a book's words and the history of its calls stands the ledger, in two layers. Below it is all index arithmetic: `HoldsLedger` says which word has
-- which figure of the ledger, slot by slot. Above it is none: a history tells a ledger (`ledger_after`), whose figures are those of the rows in force
-- and whose balances are the formula's. Demand 3 is that each call keeps the two together: `State` holds of a new book, and after each call of what it
-- left. Every book that is well formed holds a ledger, a lent one too (`ledger_of`). The laws stand in `LedgerLaws` (a row stored), `CloseLaws` (a day
-- closed), `FormLaws` and `FormedLaws` (well formed), `StateLaws` and `CloseStateLaws` (each call). Assumes nothing.
use Rattle.std.specs.Prelude.{◌≡◌, ◌≢◌, cond, List, [], ◌∷◌, ℕ, suc, ◌+◌, ◌-◌, ◌*◌, ◌≤◌, ◌<◌, T, ℤ, pos, nat_abs, length, get_or, Option, Some, None}
use Rattle.integer.specs.Words.{word}
use Rattle.rulebook.specs.declared.Section.{Section}
use Rattle.rulebook.specs.declared.Section.TheVariants.{Vesting, Meter}
use Rattle.rulebook.specs.declared.Terms.{Terms}
use Rattle.rulebook.specs.Units.{last_day, intervals}
use Rattle.rulebook.specs.DayAmount.{minus_sum}
use Rattle.rulebook.specs.Sections.{accounts_of, least_count, most_count, per_interval, value_in_range}
use Rattle.rulebook.specs.Layout.{width, interval_size, ring, size, InWindow, interval_word, row_word, padding, is_padding, interval_table, account_table, account_place, interval_words, account_words, book_mark, mark_word, accounts_word, lag_word, horizon_word, first_day_word, next_day_word, mssl_word, change_day_word, differences_word, balance_word, balance_padding, header_padding, header_padding_words, balance_padding_words}
use Rattle.rulebook.specs.BookData.{Entries, terms_of, next_day, entries_of}
use Rattle.rulebook.specs.WellFormed.{day_bound}
use Rattle.rulebook.specs.WindowWalk.{window_slot}
use Rattle.rulebook.specs.File.{Row}
use Rattle.rulebook.specs.Submit.{entry, entry_or}
use Rattle.rulebook.specs.History.{Event, closes, RowsInForce, is_for, in_force, formula_balance, formula_differences}
use Rattle.rulebook.specs.Demand3.{ResidualsCounted, DifferencesReturned, EachReported}

-- a book told apart from its words: how many days are closed, what stands in each row by section, account, day, interval and place, and the balances in
-- cents, and the rounding differences' sum
pub record Ledger : Type 0 where
  pub closed : ℕ
  pub entries : Entries
  pub balance : ℕ → ℤ
  pub mssl : ℤ
  pub differences : ℤ

-- ---- Above: the ledger of a history

-- what stands in a row's words; a row that is not there is all zeros
abbrev pub entry_of : Option Row → ℕ → ℕ → ℤ
entry_of x = entry_or x (λ i j. pos 0)

abbrev pub entries_in : RowsInForce → Entries
entries_in rows s a d i j = entry_of (rows s a d) i j

-- of k closed days, rows in force, balances and rounding differences; the MSSL has minus the balances' sum
abbrev pub ledger : Terms → ℕ → RowsInForce → (ℕ → ℤ) → ℤ → Ledger
ledger o k rows balance differences =
    record { closed = k; entries = entries_in rows; balance = balance; mssl = minus_sum o.accounts balance; differences = differences }

abbrev pub ledger_after : Terms → List Event → Ledger
ledger_after o past = ledger o (closes past) (in_force past) (formula_balance o past) (formula_differences o past)

-- ---- A submission to a ledger

-- entries with a row's, or a file's rows', over them
abbrev pub replaced : Row → Entries → Entries
replaced row g s a d i j = cond (is_for s a d row) (entry row i j) (g s a d i j)

unfoldable pub overlaid : List Row → Entries → Entries
overlaid [] g = g
overlaid (r ∷ rs) g = overlaid rs (replaced r g)

-- all else stays
abbrev pub filed : Row → Ledger → Ledger
filed r b = record { closed = b.closed; entries = replaced r b.entries; balance = b.balance; mssl = b.mssl; differences = b.differences }

abbrev pub submitted_to : List Row → Ledger → Ledger
submitted_to rs b = record { closed = b.closed; entries = overlaid rs b.entries; balance = b.balance; mssl = b.mssl; differences = b.differences }

-- ---- Below: the words that hold a ledger

-- the words of an interval that belong to no row
pub data Padding (n : ℕ) : ℕ → Type 0 where
  of_interval : (q : ℕ) → q < interval_words → T (is_padding (get_or interval_table q padding)) → Padding n q
  of_account : (a q : ℕ) → a < n → q < account_words → T (is_padding (get_or account_table q padding)) → Padding n (account_place a q)

-- the words w hold the ledger b, word by word to the book's size
pub record HoldsLedger (o : Terms) (b : Ledger) (w : List ℤ) : Type 0 where
  pub long : size o ≤ length w
  -- the header
  pub mark : word w mark_word ≡ pos book_mark
  pub accounts : word w accounts_word ≡ pos o.accounts
  pub lag : word w lag_word ≡ pos o.lag
  pub horizon : word w horizon_word ≡ pos o.horizon
  pub first : word w first_day_word ≡ pos o.first
  pub next : word w next_day_word ≡ pos (o.first + b.closed)
  pub mssl : word w mssl_word ≡ b.mssl
  pub change : word w change_day_word ≡ pos o.change
  pub differences : word w differences_word ≡ b.differences
  pub header_zeros : (n : ℕ) → n < header_padding_words → word w (header_padding n) ≡ pos 0
  -- the accounts
  pub balances : (a : ℕ) → a < o.accounts → word w (balance_word a) ≡ b.balance a
  pub balance_zeros : (a j : ℕ) → a < o.accounts → j < balance_padding_words → word w (balance_padding a j) ≡ pos 0
  -- the slots: each word of each row of a day of the window; the slots of no day yet, while fewer than L days are closed; padding
  pub held : (s : Section) (a d i j : ℕ) → InWindow o b.closed d → a < accounts_of s o.accounts → i < intervals → j < width s
      → word w (row_word o s a d i j) ≡ b.entries s a d i j
  pub early : (u i m : ℕ) → b.closed + u < o.lag → i < intervals → m < interval_size o → word w (interval_word o (window_slot o b.closed u) i m) ≡ pos 0
  pub padding : (t i m : ℕ) → t < ring o → i < intervals → Padding o.accounts m → word w (interval_word o t i m) ≡ pos 0

-- the ledger that a book's own words tell
abbrev pub ledger_of : List ℤ → Ledger
ledger_of w = record {
  closed = next_day w - (terms_of w).first;
  entries = entries_of (terms_of w) w;
  balance = λ a. word w (balance_word a);
  mssl = word w mssl_word;
  differences = word w differences_word;
}

-- ---- What is true after a history

-- a row's count and numbers are in range
pub record RowRanged (row : Row) : Type 0 where
  pub least : least_count row.section ≤ row.count
  pub most : row.count ≤ most_count row.section
  pub numbers : (i k : ℕ) → i < intervals → k < per_interval row.section row.count
      → T (value_in_range row.section k (word row.numbers (i * per_interval row.section row.count + k)))

-- k days are closed: each row in force is in range and of no day past the window, those of closed days are all there, and balances are bounded
pub record Kept (o : Terms) (k : ℕ) (rows : RowsInForce) (balance : ℕ → ℤ) : Type 0 where
  pub section : (s : Section) (a d : ℕ) (r : Row) → rows s a d ≡ Some r → r.section ≡ s
  pub ranged : (s : Section) (a d : ℕ) (r : Row) → rows s a d ≡ Some r → RowRanged r
  pub ahead : (s : Section) (a d : ℕ) (r : Row) → rows s a d ≡ Some r → d < o.first + k + o.horizon
  pub dated : (s : Section) (a d : ℕ) (r : Row) → rows s a d ≡ Some r → d ≤ last_day
  pub vestings : (a d : ℕ) → a < o.accounts → o.first ≤ d → d < o.first + k → rows Vesting a d ≢ None
  pub meters : (a d : ℕ) → a < o.accounts → o.first ≤ d → d < o.first + k → rows Meter a d ≢ None
  pub bounded : (a : ℕ) → a < o.accounts → nat_abs (balance a) ≤ k * day_bound
  pub begun : o.first + k ≤ suc last_day

-- the words hold the history's ledger; demand 3's counts, differences returned and its 11 are as the history tells
pub record State (o : Terms) (past : List Event) (w : List ℤ) : Type 0 where
  pub holds : HoldsLedger o (ledger_after o past) w
  pub kept : Kept o (closes past) (in_force past) (formula_balance o past)
  pub counted : ResidualsCounted o past
  pub returned : DifferencesReturned o past
  pub reported : EachReported o past
