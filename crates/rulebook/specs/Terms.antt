-- Document 01, "The book": the opening's arguments N, L, H, F and their ranges, and document 02, P2: X. Assumes nothing.
use Rattle.std.specs.Prelude.{◌≡◌, Bool, ◌&&◌, ◌||◌, ◌⊎◌, ℕ, ◌≤◌, leb, eqb}
use Rattle.rulebook.specs.declared.Terms.{Terms}
use Rattle.rulebook.specs.Units.{last_day}
use Rattle.rulebook.specs.Shares.{most_accounts}

-- L, H at most
abbrev pub most_lag : ℕ
most_lag = 75

abbrev pub most_horizon : ℕ
most_horizon = 92

-- 1 January 2026, the earliest first day of a book
abbrev pub earliest_first_day : ℕ
earliest_first_day = 9497

-- X: 0 for never, or a day from 9,497 on
abbrev pub change_fits : ℕ → Bool
change_fits x = eqb x 0 || (leb earliest_first_day x && leb x last_day)

unfoldable pub terms_fit : Terms → Bool
terms_fit o = leb 1 o.accounts && leb o.accounts most_accounts && leb 1 o.lag && leb o.lag most_lag
    && leb 1 o.horizon && leb o.horizon most_horizon && leb earliest_first_day o.first && leb o.first last_day
    && change_fits o.change

-- the same, as inequalities
pub record InTerms (o : Terms) : Type 0 where
  pub accounts_from : 1 ≤ o.accounts
  pub accounts_to : o.accounts ≤ most_accounts
  pub lag_from : 1 ≤ o.lag
  pub lag_to : o.lag ≤ most_lag
  pub horizon_from : 1 ≤ o.horizon
  pub horizon_to : o.horizon ≤ most_horizon
  pub first_from : earliest_first_day ≤ o.first
  pub first_to : o.first ≤ last_day
  pub change : (o.change ≡ 0) ⊎ ((earliest_first_day ≤ o.change) × (o.change ≤ last_day))
