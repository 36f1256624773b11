-- Document 01, "The book": which words are well formed. Assumes nothing.
use Rattle.std.specs.Prelude.{Bool, cond, not, ◌&&◌, ◌||◌, List, ℕ, suc, ◌+◌, ◌-◌, ◌*◌, ℤ, pos, nat_abs, leb, ltb, eqb, length, get_or}
use Rattle.std.specs.Int.Signed.{le_z}
use Rattle.integer.specs.Below.{all, any}
use Rattle.integer.specs.Words.{word}
use Rattle.rulebook.specs.declared.Section.{Section}
use Rattle.rulebook.specs.declared.Section.TheVariants.{Vesting, Meter, Residual, Ncc}
use Rattle.rulebook.specs.declared.Terms.{Terms}
use Rattle.rulebook.specs.Units.{last_day, intervals, between}
use Rattle.rulebook.specs.Terms.{terms_fit}
use Rattle.rulebook.specs.Sections.{value_in_range, per_interval, least_count, most_count, figure_place}
use Rattle.rulebook.specs.Layout.{book_mark, mark_word, first_day_word, next_day_word, mssl_word, change_day_word, differences_word, balance_word, header_padding_words, header_padding, balance_padding_words, balance_padding, Word, flag, figure, padding, is_padding, interval_table, account_table, account_place, present, width, word_name, table_place, flag_at, interval_length, ring, size, interval_word, slot, window_from, window_days}
use Rattle.rulebook.specs.BookData.{terms_of, next_day}

-- a day's amount is at most so many cents, either way, and can be (`BoundReached`)
abbrev pub day_bound : ℕ
day_bound = 4800000000000

-- and its rounding leaves at most so many thousandths of a cent, either way, and can (`DifferenceReached`)
abbrev pub difference_bound : ℕ
difference_bound = 500

abbrev pub is_zero : ℤ → Bool
is_zero = between (pos 0) (pos 0)

-- ---- The words f 0, f 1, .. of one row at one interval: all zero, or those of a row with a count in range

unfoldable pub row_blank : Section → (ℕ → ℤ) → Bool
row_blank s f = all (width s) (λ j. is_zero (f j))

-- a word by its name, of a row of count c: its flag, a figure in range, or where the row has no such figure zero
abbrev pub word_fits : Section → ℕ → Word → ℤ → Bool
word_fits s c (flag t) z = between (pos (present s c)) (pos (present s c)) z
word_fits s c (figure g) z = cond (ltb (figure_place g) (per_interval s c)) (value_in_range s (figure_place g) z) (is_zero z)
word_fits s c padding z = is_zero z

unfoldable pub row_counts : Section → (ℕ → ℤ) → ℕ → Bool
row_counts s f c = leb (least_count s) c && all (width s) (λ j. word_fits s c (word_name s j) (f j))

unfoldable pub row_fits : Section → (ℕ → ℤ) → Bool
row_fits s f = row_blank s f || any (suc (most_count s)) (row_counts s f)

-- the words f 0, f 1, .. of a table that are padding are zero
unfoldable pub padding_zero : List Word → (ℕ → ℤ) → Bool
padding_zero table f = all (length table) (λ q. not (is_padding (get_or table q padding)) || is_zero (f q))

-- ---- The words f 0, f 1, .. of an account at an interval, and of an interval of n accounts

-- word j of the row of section s, among the words of its table
abbrev pub word_of_row : (ℕ → ℤ) → Section → ℕ → ℤ
word_of_row f s j = f (table_place s j)

-- vesting and meter rows are there
unfoldable pub rows_there : (ℕ → ℤ) → Bool
rows_there f = not (is_zero (f (flag_at Vesting))) && not (is_zero (f (flag_at Meter)))

-- an account's: padding zero, each row absent or fitting; of a closed day, vesting and meter rows there
unfoldable pub account_fits : Bool → (ℕ → ℤ) → Bool
account_fits closed f = padding_zero account_table f && row_fits Vesting (word_of_row f Vesting) && row_fits Meter (word_of_row f Meter) && row_fits Residual (word_of_row f Residual)
    && (not closed || rows_there f)

-- the interval's own: padding zero, the NCC row absent or fitting
unfoldable pub ncc_fits : (ℕ → ℤ) → Bool
ncc_fits f = padding_zero interval_table f && row_fits Ncc (word_of_row f Ncc)

-- those of each account
abbrev pub accounts_fit : ℕ → Bool → (ℕ → ℤ) → Bool
accounts_fit n closed f = all n (λ a. account_fits closed (λ q. f (account_place a q)))

-- its own, then those
unfoldable pub interval_fits : ℕ → Bool → (ℕ → ℤ) → Bool
interval_fits n closed f = ncc_fits f && accounts_fit n closed f

-- a day's intervals, f i being the words of interval i
abbrev pub intervals_fit : ℕ → Bool → (ℕ → ℕ → ℤ) → Bool
intervals_fit n closed f = all intervals (λ i. interval_fits n closed (f i))

unfoldable pub interval_blank : ℕ → (ℕ → ℤ) → Bool
interval_blank n f = all (interval_length n) (λ m. is_zero (f m))

-- ---- Slots

-- slot t is of a day of the window
unfoldable pub is_dated : Terms → ℕ → ℕ → Bool
is_dated o C t = any (window_days o C) (λ i. eqb (slot o (window_from o C + i)) t)

module _ (o : Terms) (w : List ℤ) where
  -- word m of interval i of slot t
  abbrev pub interval_at : ℕ → ℕ → ℕ → ℤ
  interval_at t i m = word w (interval_word o t i m)

  unfoldable pub slot_blank : ℕ → Bool
  slot_blank t = all intervals (λ i. interval_blank o.accounts (interval_at t i))

  -- a slot of a day, closed or open: each interval fits
  unfoldable pub dated_fits : Bool → ℕ → Bool
  dated_fits closed t = intervals_fit o.accounts closed (interval_at t)

  -- day d's slot: the days before C are closed
  unfoldable pub day_fits : ℕ → ℕ → Bool
  day_fits C d = dated_fits (ltb d C) (slot o d)

  -- each day of the window has a fitting slot, and every other slot is blank
  unfoldable pub days_fit : ℕ → Bool
  days_fit C = all (window_days o C) (λ i. day_fits C (window_from o C + i)) && all (ring o) (λ t. is_dated o C t || slot_blank t)

-- ---- Balances and header

-- a sum z over n accounts and k closed days, of at most so much each
unfoldable pub sum_fits : ℕ → ℕ → ℕ → ℤ → Bool
sum_fits most n k z = leb (nat_abs z) (n * (k * most))

-- n accounts' balance, and their rounding difference, after k closed days
abbrev pub balance_fits : ℕ → ℕ → ℤ → Bool
balance_fits = sum_fits day_bound

abbrev pub differences_fit : ℕ → ℕ → ℤ → Bool
differences_fit = sum_fits difference_bound

-- account a's eight words: its balance, and zeros
unfoldable pub balance_words_fit : List ℤ → ℕ → ℕ → Bool
balance_words_fit w k a = balance_fits 1 k (word w (balance_word a)) && all balance_padding_words (λ j. is_zero (word w (balance_padding a j)))

-- those of n accounts
abbrev pub balances_fit : List ℤ → ℕ → ℕ → Bool
balances_fit w k n = all n (balance_words_fit w k)

-- C from F to 36,525
abbrev pub next_day_fits : List ℤ → Bool
next_day_fits w = between (word w first_day_word) (pos (suc last_day)) (word w next_day_word)

-- N, L, H, F, X in an opening's ranges; `terms_of` reads a word below zero as 0, which only X may be
unfoldable pub terms_words_fit : List ℤ → Bool
terms_words_fit w = terms_fit (terms_of w) && le_z (pos 0) (word w change_day_word)

-- 395; the terms; C; zeros to word 63
unfoldable pub header_fits : List ℤ → Bool
header_fits w = between (pos book_mark) (pos book_mark) (word w mark_word) && terms_words_fit w && next_day_fits w && all header_padding_words (λ n. is_zero (word w (header_padding n)))

-- ---- The book

-- with its terms, C the next day to close: the MSSL's balance, the rounding difference, the accounts' balances, days
unfoldable pub contents_fit : Terms → List ℤ → ℕ → Bool
contents_fit o w C = balance_fits o.accounts (C - o.first) (word w mssl_word) && differences_fit o.accounts (C - o.first) (word w differences_word) && balances_fit w (C - o.first) o.accounts && days_fit o w C

unfoldable pub fits : Terms → List ℤ → ℕ → Bool
fits o w C = header_fits w && leb (size o) (length w) && contents_fit o w C

unfoldable pub well_formed : List ℤ → Bool
well_formed w = fits (terms_of w) w (next_day w)
