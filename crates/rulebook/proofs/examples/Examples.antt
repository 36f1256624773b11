-- Document 01's ranges, and rows and headers that are well formed or not, in figures computed from the definitions. Assumes nothing.
use Rattle.std.specs.Prelude.{◌≡◌, refl, Bool, true, false, List, [], ◌∷◌, ◌++◌, ℕ, ◌+◌, ◌≤◌, ℤ, pos, ◌+ℤ◌, ◌-ℤ◌, replicate, get_or}
use Rattle.std.proofs.Common.{inl, arith}
use Rattle.integer.specs.Integer.{minus}
use Rattle.integer.specs.Below.{fold, tabulate}
use Rattle.rulebook.specs.declared.Section.{Section}
use Rattle.rulebook.specs.declared.Section.TheVariants.{Vesting, Meter, Residual, Ncc}
use Rattle.rulebook.specs.declared.Terms.{Terms}
use Rattle.rulebook.specs.Terms.{terms_fit, InTerms}
use Rattle.rulebook.specs.Sections.{value_in_range}
use Rattle.rulebook.specs.Layout.{base, balance_word}
use Rattle.rulebook.specs.WellFormed.{row_fits, row_blank, row_counts, terms_words_fit, header_fits, sum_fits, balance_fits, differences_fit, balance_words_fit}
use Rattle.rulebook.proofs.examples.Figures.{accounts}

-- ---- Terms

-- L = H = 1, F = 9,497
abbrev pub two : Terms
two = accounts 2

abbrev pub one : Terms
one = accounts 1

in_terms : (n : ℕ) → 1 ≤ n → n ≤ 32 → InTerms (accounts n)
in_terms n h k = record {
  accounts_from = h;
  accounts_to = k;
  lag_from = omega arith;
  lag_to = omega arith;
  horizon_from = omega arith;
  horizon_to = omega arith;
  first_from = omega arith;
  first_to = omega arith;
  change = inl refl;
}

pub in_two : InTerms two
in_two = in_terms 2 (omega arith) (omega arith)

pub in_one : InTerms one
in_one = in_terms 1 (omega arith) (omega arith)

-- N = 3, L = 2, H = 3
abbrev pub three : Terms
three = record { accounts = 3; lag = 2; horizon = 3; first = 9497; change = 0 }

abbrev pub zeros : ℕ → List ℕ
zeros n = replicate n 0

-- ---- Ranges: value k of a section's interval is from low to high, both included, and no further

abbrev From : Section → ℕ → ℤ → ℤ → Type 0
From s k low high = (value_in_range s k low ≡ true) × (value_in_range s k (low -ℤ pos 1) ≡ false) × (value_in_range s k high ≡ true) × (value_in_range s k (high +ℤ pos 1) ≡ false)

pub record Ranges : Type 0 where
  pub bvq : From Vesting 0 (pos 0) (pos 10000000)
  pub bvp : From Vesting 1 (minus 1000000) (pos 1000000)
  pub tvq : From Vesting 6 (pos 0) (pos 10000000)
  pub tvp : From Vesting 7 (minus 1000000) (pos 1000000)
  pub mep : From Meter 0 (minus 1000000) (pos 1000000)
  pub ieq : From Meter 1 (minus 10000000) (pos 10000000)
  pub uegq : From Residual 0 (pos 0) (pos 10000000)
  pub mq : From Residual 1 (pos 0) (pos 10000000)
  pub rvp1 : From Residual 2 (minus 1000000) (pos 1000000)
  pub rvp2 : From Residual 3 (minus 1000000) (pos 1000000)
  pub load : From Ncc 0 (pos 0) (pos 1000000000)

pub ranges : Ranges
ranges = record {
  bvq = (refl, refl, refl, refl);
  bvp = (refl, refl, refl, refl);
  tvq = (refl, refl, refl, refl);
  tvp = (refl, refl, refl, refl);
  mep = (refl, refl, refl, refl);
  ieq = (refl, refl, refl, refl);
  uegq = (refl, refl, refl, refl);
  mq = (refl, refl, refl, refl);
  rvp1 = (refl, refl, refl, refl);
  rvp2 = (refl, refl, refl, refl);
  load = (refl, refl, refl, refl);
}

-- ---- Well formed

-- the words of a row at an interval, zeros after
abbrev words : List ℤ → ℕ → ℤ
words l n = get_or l n (pos 0)

pub record RowExamples : Type 0 where
  pub absent : row_fits Vesting (words []) ≡ true
  pub no_tranche : row_fits Vesting (words (pos 1 ∷ pos 400 ∷ pos 15000 ∷ [])) ≡ true
  pub two_tranches : row_fits Vesting (words (pos 3 ∷ pos 400 ∷ pos 15000 ∷ pos 1 ∷ minus 2 ∷ pos 3 ∷ pos 4 ∷ [])) ≡ true
  pub unused_pair : row_fits Vesting (words (pos 2 ∷ pos 400 ∷ pos 15000 ∷ pos 1 ∷ minus 2 ∷ pos 3 ∷ pos 4 ∷ [])) ≡ false
  pub absent_data : row_fits Vesting (words (pos 0 ∷ pos 400 ∷ [])) ≡ false
  pub three_tranches : row_fits Vesting (words (pos 4 ∷ [])) ≡ true
  pub four_tranches : row_fits Vesting (words (pos 5 ∷ [])) ≡ false
  pub four_facilities : row_fits Meter (words (pos 4 ∷ [])) ≡ true
  pub five_facilities : row_fits Meter (words (pos 5 ∷ [])) ≡ false
  pub residual_twice : row_fits Residual (words (pos 2 ∷ [])) ≡ false
  pub load_there : row_fits Ncc (words (pos 550 ∷ pos 1 ∷ [])) ≡ true
  pub load_absent : row_fits Ncc (words (pos 550 ∷ pos 0 ∷ [])) ≡ false

pub row-examples : RowExamples
unfolding row_fits row_blank row_counts fold
row-examples = record {
  absent = refl;
  no_tranche = refl;
  two_tranches = refl;
  unused_pair = refl;
  absent_data = refl;
  three_tranches = refl;
  four_tranches = refl;
  four_facilities = refl;
  five_facilities = refl;
  residual_twice = refl;
  load_there = refl;
  load_absent = refl;
}

-- a header: 395, N, L, H, F, C and the words after, of which the first is the MSSL's balance, the second X
abbrev headed : ℤ → ℤ → ℤ → ℤ → ℤ → ℤ → List ℤ → Bool
headed m n l h f c more = header_fits (m ∷ n ∷ l ∷ h ∷ f ∷ c ∷ more)

-- F = 20,000, and X
abbrev changing : ℤ → Bool
changing x = headed (pos 395) (pos 2) (pos 1) (pos 1) (pos 20000) (pos 20000) (pos 0 ∷ x ∷ [])

pub record Headers : Type 0 where
  pub fine : headed (pos 395) (pos 32) (pos 75) (pos 92) (pos 9497) (pos 36525) (minus 7 ∷ []) ≡ true
  pub wrong_mark : headed (pos 394) (pos 2) (pos 1) (pos 1) (pos 9497) (pos 9497) [] ≡ false
  pub no_account : headed (pos 395) (pos 0) (pos 1) (pos 1) (pos 9497) (pos 9497) [] ≡ false
  pub many_accounts : headed (pos 395) (pos 33) (pos 1) (pos 1) (pos 9497) (pos 9497) [] ≡ false
  pub long_lag : headed (pos 395) (pos 2) (pos 76) (pos 1) (pos 9497) (pos 9497) [] ≡ false
  pub long_horizon : headed (pos 395) (pos 2) (pos 1) (pos 93) (pos 9497) (pos 9497) [] ≡ false
  pub early_first : headed (pos 395) (pos 2) (pos 1) (pos 1) (pos 9496) (pos 9497) [] ≡ false
  pub below_zero : headed (pos 395) (minus 2) (pos 1) (pos 1) (pos 9497) (pos 9497) [] ≡ false
  pub before_first : headed (pos 395) (pos 2) (pos 1) (pos 1) (pos 9498) (pos 9497) [] ≡ false
  pub past_last : headed (pos 395) (pos 2) (pos 1) (pos 1) (pos 9497) (pos 36526) [] ≡ false
  -- X is 0 or from 9,497 to 36,524, before F or after it
  pub changes : (changing (pos 9497) ≡ true) × (changing (pos 20000) ≡ true) × (changing (pos 36524) ≡ true)
  pub no_changes : (changing (pos 1) ≡ false) × (changing (pos 9496) ≡ false) × (changing (pos 36525) ≡ false)
  pub change_below_zero : (changing (minus 1) ≡ false) × (changing (minus 20000) ≡ false)
  pub last_padding_used : headed (pos 395) (pos 2) (pos 1) (pos 1) (pos 9497) (pos 9497) (replicate 57 (pos 0) ++ (pos 1 ∷ [])) ≡ false
  -- words 6, 8 and 64 are sums
  pub balances : headed (pos 395) (pos 2) (pos 1) (pos 1) (pos 9497) (pos 9497) (pos 1 ∷ pos 0 ∷ pos 1 ∷ replicate 55 (pos 0) ++ (pos 1 ∷ [])) ≡ true
  pub padding_used : headed (pos 395) (pos 2) (pos 1) (pos 1) (pos 9497) (pos 9497) (pos 0 ∷ pos 0 ∷ pos 0 ∷ pos 1 ∷ []) ≡ false

pub headers : Headers
unfolding header_fits terms_words_fit terms_fit fold
headers = record {
  fine = refl;
  wrong_mark = refl;
  no_account = refl;
  many_accounts = refl;
  long_lag = refl;
  long_horizon = refl;
  early_first = refl;
  below_zero = refl;
  before_first = refl;
  past_last = refl;
  changes = (refl, refl, refl);
  no_changes = (refl, refl, refl);
  change_below_zero = (refl, refl);
  last_padding_used = refl;
  balances = refl;
  padding_used = refl;
}

-- ---- Balances: (C − F) × 4,800,000,000,000 either way, the MSSL's N times that

pub record Balances : Type 0 where
  pub new_book : (balance_fits 1 0 (pos 0) ≡ true) × (balance_fits 1 0 (pos 1) ≡ false)
  pub one_day : (balance_fits 1 1 (pos 4800000000000) ≡ true) × (balance_fits 1 1 (pos 4800000000001) ≡ false)
  pub below : (balance_fits 1 1 (minus 4800000000000) ≡ true) × (balance_fits 1 1 (minus 4800000000001) ≡ false)
  pub mssl : (balance_fits 2 3 (pos 28800000000000) ≡ true) × (balance_fits 2 3 (pos 28800000000001) ≡ false)

pub balances : Balances
unfolding sum_fits
balances = record { new_book = (refl, refl); one_day = (refl, refl); below = (refl, refl); mssl = (refl, refl) }

-- ---- The rounding difference: 500 × N × (C − F) either way (document 02, P5)

pub record Differences : Type 0 where
  pub new_book : (differences_fit 1 0 (pos 0) ≡ true) × (differences_fit 32 0 (pos 1) ≡ false) × (differences_fit 32 0 (minus 1) ≡ false)
  pub one_day : (differences_fit 1 1 (pos 500) ≡ true) × (differences_fit 1 1 (pos 501) ≡ false)
  pub below : (differences_fit 1 1 (minus 500) ≡ true) × (differences_fit 1 1 (minus 501) ≡ false)
  pub more : (differences_fit 2 3 (pos 3000) ≡ true) × (differences_fit 2 3 (pos 3001) ≡ false)
  -- of the most accounts, when every day is closed
  pub most : (differences_fit 32 27028 (minus 432448000) ≡ true) × (differences_fit 32 27028 (minus 432448001) ≡ false)

pub differences : Differences
unfolding sum_fits
differences = record { new_book = (refl, refl, refl); one_day = (refl, refl); below = (refl, refl); more = (refl, refl); most = (refl, refl) }

-- ---- Accounts: 8 words each from 64 on, a balance and seven zeros

-- account a's words after a closed day, of a book of zeros but for a 1 at an index
abbrev used : ℕ → ℕ → Bool
used a n = balance_words_fit (replicate n (pos 0) ++ (pos 1 ∷ [])) 1 a

pub record AccountWords : Type 0 where
  -- where balances stand, and after the last account's eight words the first slot
  pub balances : (tabulate 3 balance_word ≡ 64 ∷ 72 ∷ 80 ∷ []) × (balance_word 31 ≡ 312)
  pub slots : (base (accounts 1) ≡ 72) × (base (accounts 2) ≡ 80) × (base (accounts 32) ≡ 320)
  -- words 63 to 72, of account 0: its own are 64 to 71, of which 64 may be used
  pub first : tabulate 10 (λ n. used 0 (63 + n)) ≡ true ∷ true ∷ false ∷ false ∷ false ∷ false ∷ false ∷ false ∷ false ∷ true ∷ []
  -- words 71 to 80, of account 1; words 311 to 320, of account 31
  pub second : tabulate 10 (λ n. used 1 (71 + n)) ≡ true ∷ true ∷ false ∷ false ∷ false ∷ false ∷ false ∷ false ∷ false ∷ true ∷ []
  pub last : tabulate 10 (λ n. used 31 (311 + n)) ≡ true ∷ true ∷ false ∷ false ∷ false ∷ false ∷ false ∷ false ∷ false ∷ true ∷ []

pub account-words : AccountWords
unfolding tabulate fold balance_words_fit sum_fits base
account-words = record { balances = (refl, refl); slots = (refl, refl, refl); first = refl; second = refl; last = refl }
