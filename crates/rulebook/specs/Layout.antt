-- Document 01, "The book": where each word stands. No later chapter has a word's index, but for `Opening.header`, which lists
-- the first words in order, and `FormedBook` and `Leaves`, which say them again in document 01's figures. Assumes nothing.
use Rattle.std.specs.Prelude.{Bool, true, false, List, [], ◌∷◌, ℕ, zero, suc, ◌+◌, ◌-◌, ◌*◌, ◌%◌, ◌≤◌, ◌<◌, min, max, ℤ, eqb, length, get_or, set}
use Rattle.integer.specs.Words.{part}
use Rattle.rulebook.specs.declared.Section.{Section}
use Rattle.rulebook.specs.declared.Section.TheVariants.{Vesting, Meter, Residual, Ncc}
use Rattle.rulebook.specs.declared.Terms.{Terms}
use Rattle.rulebook.specs.Units.{last_day, intervals}
use Rattle.rulebook.specs.Sections.{same_section, Figure, BVQ, BVP, TVQ, TVP, MEP, IEQ, UEGQ, MQ, RVP1, RVP2, NccLoad, figure_section, figure_place}

-- ---- Words

-- n words of w, from at on, set to f 0, f 1, ..
unfoldable pub stored : List ℤ → ℕ → ℕ → (ℕ → ℤ) → List ℤ
stored w at zero f = w
stored w at (suc n) f = set (stored w at n f) (at + n) (f n)

-- ---- The header

abbrev pub header_words : ℕ
header_words = 64

abbrev pub mark_word : ℕ
mark_word = 0

abbrev pub accounts_word : ℕ
accounts_word = 1

abbrev pub lag_word : ℕ
lag_word = 2

abbrev pub horizon_word : ℕ
horizon_word = 3

abbrev pub first_day_word : ℕ
first_day_word = 4

abbrev pub next_day_word : ℕ
next_day_word = 5

abbrev pub mssl_word : ℕ
mssl_word = 6

-- X (document 02, P2)
abbrev pub change_day_word : ℕ
change_day_word = 7

-- the running sum of the rounding differences (document 02, P5)
abbrev pub differences_word : ℕ
differences_word = 8

-- word 0 of every book
abbrev pub book_mark : ℕ
book_mark = 395

-- the header's zeros, to word 63
abbrev pub header_padding_words : ℕ
header_padding_words = 55

abbrev pub header_padding : ℕ → ℕ
header_padding n = 9 + n

-- ---- Accounts

abbrev pub balance_words : ℕ
balance_words = 8

-- account a's balance in cents, and its zeros
abbrev pub balance_word : ℕ → ℕ
balance_word a = header_words + balance_words * a

abbrev pub balance_padding_words : ℕ
balance_padding_words = 7

abbrev pub balance_padding : ℕ → ℕ → ℕ
balance_padding a j = 65 + 8 * a + j

-- ---- An interval's words, by name

-- a row's flag, one of its figures, or none of these: such a word is zero
pub data Word : Type 0 where
  flag : Section → Word
  figure : Figure → Word
  padding : Word

-- first the interval's own
abbrev pub interval_table : List Word
interval_table = figure NccLoad ∷ flag Ncc ∷ padding ∷ padding ∷ []

-- then those of each account
abbrev pub account_table : List Word
account_table =
    flag Vesting ∷ figure BVQ ∷ figure BVP ∷ figure (TVQ 0) ∷ figure (TVP 0) ∷ figure (TVQ 1) ∷ figure (TVP 1) ∷ figure (TVQ 2) ∷ figure (TVP 2)
    ∷ flag Meter ∷ figure (MEP 0) ∷ figure (IEQ 0) ∷ figure (MEP 1) ∷ figure (IEQ 1) ∷ figure (MEP 2) ∷ figure (IEQ 2) ∷ figure (MEP 3) ∷ figure (IEQ 3)
    ∷ flag Residual ∷ figure UEGQ ∷ figure MQ ∷ figure RVP1 ∷ figure RVP2 ∷ padding ∷ []

abbrev pub interval_words : ℕ
interval_words = length interval_table

abbrev pub account_words : ℕ
account_words = length account_table

-- where account a's words, its cell, start in its interval
abbrev pub cell_place : ℕ → ℕ
cell_place a = interval_words + account_words * a

-- and where word q of them stands
abbrev pub account_place : ℕ → ℕ → ℕ
account_place a q = cell_place a + q

-- the flag of a row that is there, of a count; that of a row that is absent is 0
abbrev pub present : Section → ℕ → ℕ
present Vesting tranches = 1 + tranches
present Meter facilities = facilities
present Residual count = 1
present Ncc count = 1

-- ---- A row's words at an interval, read off the tables

-- one more, where the test holds
abbrev pub cons_if : {A : Type 0} → Bool → A → List A → List A
cons_if true x xs = x ∷ xs
cons_if false x xs = xs

-- the elements of a list that pass a test, and their places, counted from n
abbrev pub those : {A : Type 0} → (A → Bool) → List A → List A
those p [] = []
those p (x ∷ xs) = cons_if (p x) x (those p xs)

abbrev pub places_from : {A : Type 0} → ℕ → (A → Bool) → List A → List ℕ
places_from n p [] = []
places_from n p (x ∷ xs) = cons_if (p x) n (places_from (suc n) p xs)

-- the place of the first that passes
abbrev pub first_place : {A : Type 0} → (A → Bool) → List A → ℕ
first_place p xs = get_or (places_from 0 p xs) 0 0

abbrev pub is_flag : Word → Bool
is_flag (flag s) = true
is_flag (figure g) = false
is_flag padding = false

abbrev pub is_padding : Word → Bool
is_padding (flag s) = false
is_padding (figure g) = false
is_padding padding = true

-- a row of section s has this word
abbrev pub of_section : Section → Word → Bool
of_section s (flag t) = same_section t s
of_section s (figure g) = same_section (figure_section g) s
of_section s padding = false

-- the word is the figure of its row at this place
abbrev pub of_place : ℕ → Word → Bool
of_place k (flag t) = false
of_place k (figure g) = eqb (figure_place g) k
of_place k padding = false

abbrev pub table_of : Section → List Word
table_of Vesting = account_table
table_of Meter = account_table
table_of Residual = account_table
table_of Ncc = interval_table

-- a row's words in order, how many, and word j's name
abbrev pub row_table : Section → List Word
row_table s = those (of_section s) (table_of s)

abbrev pub width : Section → ℕ
width s = length (row_table s)

abbrev pub word_name : Section → ℕ → Word
word_name s j = get_or (row_table s) j padding

-- which of a row's words is its flag, and which a figure
abbrev pub flag_index : Section → ℕ
flag_index s = first_place is_flag (row_table s)

abbrev pub figure_index : Figure → ℕ
figure_index g = first_place (of_place (figure_place g)) (row_table (figure_section g))

-- where word j of a row stands in its table
abbrev pub table_place : Section → ℕ → ℕ
table_place s j = get_or (places_from 0 (of_section s) (table_of s)) j 0

-- its flag, and a figure; those of tender or facility t stand 2t words after the first
abbrev pub flag_at : Section → ℕ
flag_at s = table_place s (flag_index s)

abbrev pub figure_at : Figure → ℕ
figure_at g = table_place (figure_section g) (figure_index g)

-- where word j of account a's row stands in its interval
abbrev pub place : Section → ℕ → ℕ → ℕ
place Vesting a j = account_place a (table_place Vesting j)
place Meter a j = account_place a (table_place Meter j)
place Residual a j = account_place a (table_place Residual j)
place Ncc a j = table_place Ncc j

-- ---- Slots

-- words of an interval of n accounts: 4 + 24n, where one account more would have its cell
abbrev pub interval_length : ℕ → ℕ
interval_length n = cell_place n

-- and of a slot
abbrev pub slot_length : ℕ → ℕ
slot_length n = intervals * interval_length n

-- interval i of a slot x of n accounts, and account a's cell of an interval x
abbrev pub interval_of : ℕ → List ℤ → ℕ → List ℤ
interval_of n x i = part x (i * interval_length n) (interval_length n)

abbrev pub cell_of : List ℤ → ℕ → List ℤ
cell_of x a = part x (cell_place a) account_words

module _ (o : Terms) where
  -- words of an interval: 4 + 24N
  unfoldable pub interval_size : ℕ
  interval_size = interval_length o.accounts

  -- how many slots
  unfoldable pub ring : ℕ
  ring = o.lag + o.horizon

  -- where they start
  unfoldable pub base : ℕ
  base = balance_word o.accounts

  -- 64 + 8N + 48(L + H)(4 + 24N)
  unfoldable pub size : ℕ
  size = base + intervals * ring * interval_size

  -- day d's: (d − F) mod (L + H)
  unfoldable pub slot : ℕ → ℕ
  slot d = (d - o.first) % ring

  -- the window, C being the next day to close: the days of which a book has data, from max(F, C − L) to min(C + H − 1, 36,524); how many they are
  abbrev pub window_from : ℕ → ℕ
  window_from C = max o.first (C - o.lag)

  abbrev pub window_to : ℕ → ℕ
  window_to C = min (C + o.horizon - 1) last_day

  abbrev pub window_days : ℕ → ℕ
  window_days C = suc (window_to C) - window_from C

  -- the same with k = C − F days closed, and to C + H − 1 even past 36,524
  pub record InWindow (k d : ℕ) : Type 0 where
    pub begun : o.first ≤ d
    pub kept : o.first + k ≤ d + o.lag
    pub ahead : d < o.first + k + o.horizon

  -- word m of interval i of slot t
  unfoldable pub interval_word : ℕ → ℕ → ℕ → ℕ
  interval_word t i m = base + ((t * intervals + i) * interval_size + m)

  -- the first word of day d's slot
  unfoldable pub slot_start : ℕ → ℕ
  slot_start d = interval_word (slot d) 0 0

  -- word j of the row of section s, account a, day d, at interval i
  unfoldable pub row_word : Section → ℕ → ℕ → ℕ → ℕ → ℕ
  row_word s a d i j = interval_word (slot d) i (place s a j)

  -- its flag's
  abbrev pub flag_word : Section → ℕ → ℕ → ℕ → ℕ
  flag_word s a d i = row_word s a d i (flag_index s)
