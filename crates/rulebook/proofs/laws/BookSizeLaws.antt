-- Any well-formed lent book: its data are in range, and so is what a close of it computes and leaves. Every bound is below 2 ^ 63. Assumes nothing.
use Rattle.std.specs.Prelude.{List, ℕ, suc, ◌+◌, ◌-◌, ◌*◌, ◌≤◌, ◌<◌, T, ℤ, nat_abs}
use Rattle.std.proofs.Common.{suc-mul, mul-le-mul_right}
use native.Mathlib.Omega.{arith}
use Rattle.std.proofs.Math.Dec.{leb→le}
use Rattle.integer.proofs.laws.IntegerLaws.{abs-add, abs_neg}
use Rattle.integer.specs.Words.{word}
use Rattle.rulebook.specs.Units.{last_day}
use Rattle.rulebook.specs.DayAmount.{settles_residual, residual_day, posted_amount, mssl_amount}
use Rattle.rulebook.specs.Layout.{balance_word, mssl_word, differences_word, InWindow}
use Rattle.rulebook.specs.BookData.{entries_of, book_data, terms_of, next_day}
use Rattle.rulebook.specs.WellFormed.{well_formed, day_bound, difference_bound}
use Rattle.rulebook.specs.Close.{posted, posted_to_mssl, day_difference}
use Rattle.rulebook.specs.Bounds.{SizedDay, CloseSized}
use Rattle.rulebook.proofs.laws.SizeLaws.{posted-size, posted-sum_size}
use Rattle.rulebook.proofs.laws.DayAmountLaws.{difference-parts}
use Rattle.rulebook.proofs.laws.SumLaws.{sum-room, sum-grown, sum-most}
use Rattle.rulebook.proofs.laws.RangeLaws.{RangedEntries, data_sized, load_sized}
use Rattle.rulebook.proofs.laws.SlotLaws.{entries-ranged}
use Rattle.rulebook.proofs.laws.FormedLaws.{opened_of, next_of, walk_of, balance-at, mssl-at, differences-at}

module _ (w : List ℤ) (t : T (well_formed w)) where
  -- every figure of every day of the window is in its range
  pub book-ranged : (d : ℕ) → InWindow (terms_of w) (next_day w - (terms_of w).first) d → d ≤ last_day → RangedEntries (terms_of w).accounts (entries_of (terms_of w) w) d
  book-ranged d h l = entries-ranged (terms_of w) w (next_day w - (terms_of w).first) (walk_of w t) d h l

  module _ (left : next_day w ≤ last_day) where
    pub D-inside : InWindow (terms_of w) (next_day w - (terms_of w).first) (next_day w)
    D-inside = let q = opened_of w t in let n = (next_of w t).1 in record { begun = omega arith; kept = omega arith; ahead = omega arith }

    pub r_inside : T (settles_residual (terms_of w) (next_day w)) → InWindow (terms_of w) (next_day w - (terms_of w).first) (residual_day (terms_of w) (next_day w))
    unfolding settles_residual
    r_inside x =
        let q = opened_of w t in
        let n = (next_of w t).1 in
        let y = leb→le ((terms_of w).first + (terms_of w).lag) (next_day w) x in
        record { begun = omega arith; kept = omega arith; ahead = omega arith }

    r_dated : residual_day (terms_of w) (next_day w) ≤ last_day
    r_dated = omega arith

    now-sized : SizedDay (terms_of w).accounts (book_data (terms_of w) w) (next_day w)
    now-sized = data_sized (terms_of w).accounts (entries_of (terms_of w) w) (next_day w) (book-ranged (next_day w) D-inside left)

    then_sized : T (settles_residual (terms_of w) (next_day w)) → SizedDay (terms_of w).accounts (book_data (terms_of w) w) (residual_day (terms_of w) (next_day w))
    then_sized x = data_sized (terms_of w).accounts (entries_of (terms_of w) w) (residual_day (terms_of w) (next_day w)) (book-ranged (residual_day (terms_of w) (next_day w)) (r_inside x) r_dated)

    -- the amount that a close posts
    pub close-amount : (a : ℕ) → a < (terms_of w).accounts → nat_abs (posted_amount (terms_of w) (book_data (terms_of w) w) a (next_day w)) ≤ day_bound
    close-amount = posted-size (terms_of w) (book_data (terms_of w) w) (next_day w) now-sized then_sized

    mssl-amount : nat_abs (mssl_amount (terms_of w) (book_data (terms_of w) w) (next_day w)) ≤ (terms_of w).accounts * day_bound
    unfolding mssl_amount
    mssl-amount = rw abs_neg (posted-sum_size (terms_of w) (book_data (terms_of w) w) (next_day w) now-sized then_sized (terms_of w).accounts (omega arith))

    days-few : suc (next_day w - (terms_of w).first) ≤ 27028
    days-few = omega (arith, (opened_of w t).first_from, (next_of w t).1)

    -- a balance and what it grows by, and the MSSL's
    pub balance-room : (a : ℕ) → a < (terms_of w).accounts
        → nat_abs (word w (balance_word a)) + nat_abs (posted_amount (terms_of w) (book_data (terms_of w) w) a (next_day w)) ≤ 129734400000000000
    balance-room a la = omega (arith, balance-at w t a la, close-amount a la, mul-le-mul_right day_bound days-few, suc-mul (next_day w - (terms_of w).first) day_bound)

    pub mssl-room : nat_abs (word w mssl_word) + nat_abs (mssl_amount (terms_of w) (book_data (terms_of w) w) (next_day w)) ≤ 4151500800000000000
    mssl-room = omega (arith, sum-room day_bound (terms_of w).accounts (next_day w - (terms_of w).first) (word w mssl_word) (mssl_amount (terms_of w) (book_data (terms_of w) w) (next_day w)) (mssl-at w t) mssl-amount, sum-most day_bound (opened_of w t).accounts_to days-few)

    -- the rounding difference, and its sum
    difference-size : nat_abs (day_difference (terms_of w) w (next_day w)) ≤ (terms_of w).accounts * difference_bound
    unfolding day_difference
    difference-size = (difference-parts (terms_of w) (book_data (terms_of w) w) (next_day w)).within

    pub difference-room : nat_abs (word w differences_word) + nat_abs (day_difference (terms_of w) w (next_day w)) ≤ 432448000
    difference-room = omega (
      arith,
      sum-room difference_bound (terms_of w).accounts (next_day w - (terms_of w).first) (word w differences_word) (day_difference (terms_of w) w (next_day w)) (differences-at w t) difference-size,
      sum-most difference_bound (opened_of w t).accounts_to days-few,
    )

    pub close-sized : CloseSized w
    unfolding posted posted_to_mssl
    close-sized = record {
      now = now-sized;
      then = then_sized;
      loads = λ x i hi. load_sized (terms_of w).accounts (entries_of (terms_of w) w) (residual_day (terms_of w) (next_day w)) (book-ranged (residual_day (terms_of w) (next_day w)) (r_inside x) r_dated) i hi;
      posted = close-amount;
      mssl = mssl-amount;
      difference = difference-size;
      differences = sum-grown difference_bound (terms_of w).accounts (next_day w - (terms_of w).first) (word w differences_word) (day_difference (terms_of w) w (next_day w)) (differences-at w t) difference-size;
      balances = λ a la. omega (arith, abs-add (word w (balance_word a)) (posted_amount (terms_of w) (book_data (terms_of w) w) a (next_day w)), balance-room a la);
      mssl_balance = omega (arith, abs-add (word w mssl_word) (mssl_amount (terms_of w) (book_data (terms_of w) w) (next_day w)), mssl-room);
    }
