-- Document 01, "The book": what a book's words say, by name. Assumes nothing.
use Rattle.std.specs.Prelude.{List, ℕ, ℤ}
use Rattle.integer.specs.Words.{word}
use Rattle.rulebook.specs.declared.Section.{Section}
use Rattle.rulebook.specs.declared.Section.TheVariants.{Meter}
use Rattle.rulebook.specs.declared.Terms.{Terms}
use Rattle.rulebook.specs.Units.{positive}
use Rattle.rulebook.specs.DayAmount.{AccountData, SettlementData}
use Rattle.rulebook.specs.Sections.{Figure, figure_section, account_by, load_by}
use Rattle.rulebook.specs.Layout.{accounts_word, lag_word, horizon_word, first_day_word, next_day_word, change_day_word, flag_index, figure_index, row_word}

abbrev pub terms_of : List ℤ → Terms
terms_of w = record { accounts = positive (word w accounts_word); lag = positive (word w lag_word); horizon = positive (word w horizon_word); first = positive (word w first_day_word); change = positive (word w change_day_word) }

-- C, the next day to close
abbrev pub next_day : List ℤ → ℕ
next_day w = positive (word w next_day_word)

-- what stands in each row's words: section, account, day, interval, word
abbrev pub Entries : Type 0
Entries = Section → ℕ → ℕ → ℕ → ℕ → ℤ

abbrev pub entries_of : Terms → List ℤ → Entries
entries_of o w s a d i j = word w (row_word o s a d i j)

-- by name
abbrev pub entry_named : Entries → ℕ → ℕ → ℕ → Figure → ℤ
entry_named c a d i g = c (figure_section g) a d i (figure_index g)

abbrev pub account_data_of : Entries → ℕ → ℕ → ℕ → AccountData
account_data_of c a d i = account_by (entry_named c a d i) (positive (c Meter a d i (flag_index Meter)))

abbrev pub data_of : Entries → SettlementData
data_of c = record { account = account_data_of c; load = λ d i. load_by (entry_named c 0 d i) }

-- a book's data
abbrev pub book_data : Terms → List ℤ → SettlementData
book_data o w = data_of (entries_of o w)
