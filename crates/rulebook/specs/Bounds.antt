-- Document 01, "Units and ranges" and "Day amount": what a close of a book reads, posts and leaves fits 64 bits. A signed word reaches to
-- 9,223,372,036,854,775,807; the largest bound here, the MSSL's balance, is below half of that. Assumes nothing.
use Rattle.std.specs.Prelude.{List, ℕ, suc, ◌-◌, ◌*◌, ◌≤◌, ◌<◌, T, ℤ, nat_abs, ◌+ℤ◌}
use Rattle.integer.specs.Words.{word}
use Rattle.rulebook.specs.Units.{last_day, intervals, most_quantity, most_load, most_price}
use Rattle.rulebook.specs.ReferencePrice.{most_facilities}
use Rattle.rulebook.specs.Shares.{most_accounts}
use Rattle.rulebook.specs.Terms.{earliest_first_day}
use Rattle.rulebook.specs.DayAmount.{AccountData, SettlementData, tenders, settles_residual, residual_day}
use Rattle.rulebook.specs.Layout.{balance_word, mssl_word, differences_word}
use Rattle.rulebook.specs.BookData.{book_data, terms_of, next_day}
use Rattle.rulebook.specs.WellFormed.{day_bound, difference_bound}
use Rattle.rulebook.specs.Close.{posted as amountPosted, posted_to_mssl, day_difference}

-- an account's data in range
pub record Sized (x : AccountData) : Type 0 where
  pub bvq : x.bvq ≤ most_quantity
  pub bvp : nat_abs x.bvp ≤ most_price
  pub tvq : (t : ℕ) → t < tenders → x.tvq t ≤ most_quantity
  pub tvp : (t : ℕ) → t < tenders → nat_abs (x.tvp t) ≤ most_price
  pub few : x.facilities ≤ most_facilities
  pub mep : (f : ℕ) → f < most_facilities → nat_abs (x.mep f) ≤ most_price
  pub ieq : (f : ℕ) → f < most_facilities → nat_abs (x.ieq f) ≤ most_quantity
  pub uegq : x.uegq ≤ most_quantity
  pub mq : x.mq ≤ most_quantity
  pub rvp1 : nat_abs x.rvp1 ≤ most_price
  pub rvp2 : nat_abs x.rvp2 ≤ most_price

-- the accounts' data of day d are in range
abbrev pub SizedDay : ℕ → SettlementData → ℕ → Type 0
SizedDay n x d = (a i : ℕ) → a < n → i < intervals → Sized (x.account a d i)

-- the days that a book can close
abbrev pub most_days : ℕ
most_days = suc last_day - earliest_first_day

-- what a close of the book reads, posts and leaves
pub record CloseSized (w : List ℤ) : Type 0 where
  -- the data of D, and where a residual is due those of r
  pub now : SizedDay (terms_of w).accounts (book_data (terms_of w) w) (next_day w)
  pub then : T (settles_residual (terms_of w) (next_day w)) → SizedDay (terms_of w).accounts (book_data (terms_of w) w) (residual_day (terms_of w) (next_day w))
  pub loads : T (settles_residual (terms_of w) (next_day w)) → (i : ℕ) → i < intervals → (book_data (terms_of w) w).load (residual_day (terms_of w) (next_day w)) i ≤ most_load
  -- the posted amounts, and the MSSL's
  pub posted : (a : ℕ) → a < (terms_of w).accounts → nat_abs (amountPosted (terms_of w) w (next_day w) a) ≤ day_bound
  pub mssl : nat_abs (posted_to_mssl (terms_of w) w (next_day w)) ≤ (terms_of w).accounts * day_bound
  -- the rounding difference, and what its sum grows to: k days are closed, and one more
  pub difference : nat_abs (day_difference (terms_of w) w (next_day w)) ≤ (terms_of w).accounts * difference_bound
  pub differences : nat_abs (word w differences_word +ℤ day_difference (terms_of w) w (next_day w))
      ≤ (terms_of w).accounts * (suc (next_day w - (terms_of w).first) * difference_bound)
  -- the grown balances
  pub balances : (a : ℕ) → a < (terms_of w).accounts
      → nat_abs (word w (balance_word a) +ℤ amountPosted (terms_of w) w (next_day w) a) ≤ most_days * day_bound
  pub mssl_balance : nat_abs (word w mssl_word +ℤ posted_to_mssl (terms_of w) w (next_day w)) ≤ most_accounts * (most_days * day_bound)
