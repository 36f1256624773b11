-- What an accepted close writes, as the code writes it. Assumes nothing.
use Rattle.std.specs.Prelude.{◌≡◌, List, ℕ, ◌+◌, ◌≤◌, ◌<◌, ◌^◌, ℤ, nat_abs, length, set, None}
use Rattle.integer.specs.Words.{word}
use Rattle.rulebook.specs.declared.Terms.{Terms}
use Rattle.rulebook.specs.Units.{last_day}
use Rattle.rulebook.specs.DayAmount.{minus_sum}
use Rattle.rulebook.specs.Layout.{balance_word}
use Rattle.rulebook.specs.WellFormed.{day_bound}
use Rattle.rulebook.specs.Close.{first_missing, posted, posted_to_mssl}
use Rattle.book.specs.Judged.{Formed}

-- each of the statement's n amounts is at most a day's
pub record Small (n : ℕ) (st : List ℤ) : Type 0 where
  pub room : n ≤ length st
  pub each : (a : ℕ) → a < n → nat_abs (word st a) ≤ day_bound

-- n balances and amounts, whose sums fit
pub record BalancesRoom (n : ℕ) (w st : List ℤ) : Type 0 where
  pub book : balance_word n ≤ length w
  pub statement : n ≤ length st
  pub each : (a : ℕ) → a < n → nat_abs (word w (balance_word a)) + nat_abs (word st a) < 2 ^ 63

-- a book whose next close is accepted, if the statement has room
pub record Settling (w : List ℤ) (o : Terms) (D : ℕ) : Type 0 where
  pub book : Formed w o D
  pub left : D ≤ last_day
  pub none : first_missing o w D ≡ None

-- the statement of that close
pub record StatementOf (w : List ℤ) (o : Terms) (D : ℕ) (st : List ℤ) : Type 0 where
  pub room : o.accounts + 1 ≤ length st
  pub accounts : (a : ℕ) → a < o.accounts → word st a ≡ posted o w D a
  pub mssl : word st o.accounts ≡ posted_to_mssl o w D

-- word n is minus the sum of the n before it
unfoldable pub with_mssl : ℕ → List ℤ → List ℤ
with_mssl n st = set st n (minus_sum n (word st))
