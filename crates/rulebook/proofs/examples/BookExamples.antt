-- Document 01, "The book": days, slots and words that are well formed or not, computed. L = H = 1, N = 1 or 2. Assumes nothing.
use Rattle.std.specs.Prelude.{◌≡◌, refl, Bool, true, false, List, [], ◌∷◌, ◌++◌, ℕ, ℤ, pos, replicate}
use Rattle.integer.specs.Below.{fold, all}
use Rattle.rulebook.specs.declared.Terms.{Terms}
use Rattle.rulebook.specs.Layout.{account_place, base, ring, interval_size, slot, interval_word}
use Rattle.rulebook.specs.WellFormed.{row_blank, row_counts, row_fits, padding_zero, rows_there, account_fits, ncc_fits, interval_fits, interval_blank, interval_at, slot_blank, dated_fits, day_fits, is_dated, days_fit}
use Rattle.rulebook.proofs.examples.Examples.{one, two}

-- zeros, but for a 1 at an index; words past the end read 0
abbrev with : ℕ → List ℤ
with n = replicate n (pos 0) ++ (pos 1 ∷ [])

-- an account's words at an interval, without figures: a vesting and a meter row, or a blank
abbrev rows : List ℤ
rows = pos 1 ∷ replicate 8 (pos 0) ++ (pos 1 ∷ replicate 14 (pos 0))

abbrev none : List ℤ
none = replicate 24 (pos 0)

-- N = 2: the words up to the second account's in the first interval of the first slot
abbrev pair : List ℤ → List ℤ → List ℤ
pair x y = replicate 84 (pos 0) ++ x ++ y

-- every account has its vesting and meter rows, in the first interval of the first slot
abbrev all_there : Terms → List ℤ → Bool
all_there o w = all o.accounts (λ a. rows_there (λ q. interval_at o w 0 0 (account_place a q)))

pub record Days : Type 0 where
  -- an open day may be blank, a closed one may not
  pub open_day : day_fits one [] 9497 9497 ≡ true
  pub closed_day : day_fits one [] 9498 9497 ≡ false
  -- a new book, and one of which the first day is closed without rows
  pub new_book : days_fit one [] 9497 ≡ true
  pub no_rows : days_fit one [] 9498 ≡ false
  -- of a closed day both rows, of an interval: flags at 76 and 85
  pub both_rows : all_there one (replicate 76 (pos 0) ++ (pos 1 ∷ replicate 8 (pos 0) ++ (pos 1 ∷ []))) ≡ true
  pub vesting_alone : all_there one (with 76) ≡ false
  pub meter_alone : all_there one (with 85) ≡ false
  -- an interval of a closed day passes with both, with one it does not
  pub closed_both : interval_fits 1 true (interval_at one (replicate 76 (pos 0) ++ rows) 0 0) ≡ true
  pub closed_vesting : interval_fits 1 true (interval_at one (with 76) 0 0) ≡ false
  pub closed_meter : interval_fits 1 true (interval_at one (with 85) 0 0) ≡ false
  -- of each account: flags at 84 and 93, 108 and 117
  pub every_account : all_there two (pair rows rows) ≡ true
  pub first_alone : all_there two (pair rows none) ≡ false
  pub second_alone : all_there two (pair none rows) ≡ false
  -- and in each interval, not in the first alone
  pub first_interval : day_fits one (replicate 76 (pos 0) ++ rows) 9498 9497 ≡ false
  -- a vesting row in one interval of an open day; the interval's padding words, 74 and 75, and the account's, 99
  pub half_day : day_fits one (with 76) 9497 9497 ≡ true
  pub half_book : days_fit one (with 76) 9497 ≡ true
  pub half_present : interval_fits 1 false (interval_at one (with 76) 0 0) ≡ true
  pub padding74 : interval_fits 1 false (interval_at one (with 74) 0 0) ≡ false
  pub padding75 : interval_fits 1 false (interval_at one (with 75) 0 0) ≡ false
  pub padding99 : interval_fits 1 false (interval_at one (with 99) 0 0) ≡ false

pub days : Days
unfolding fold day_fits days_fit dated_fits is_dated rows_there interval_fits ncc_fits account_fits padding_zero row_fits row_blank row_counts slot_blank interval_blank base ring interval_size slot interval_word
days = record {
  open_day = refl;
  closed_day = refl;
  new_book = refl;
  no_rows = refl;
  both_rows = refl;
  vesting_alone = refl;
  meter_alone = refl;
  closed_both = refl;
  closed_vesting = refl;
  closed_meter = refl;
  every_account = refl;
  first_alone = refl;
  second_alone = refl;
  first_interval = refl;
  half_day = refl;
  half_book = refl;
  half_present = refl;
  padding74 = refl;
  padding75 = refl;
  padding99 = refl;
}
