-- What steps within the calls establish: no part of document 01, cited by the contracts of internal functions. Assumes nothing.
use Rattle.std.specs.Prelude.{List, ℕ, ◌+◌, ◌≤◌, ◌<◌, ℤ, length}
use Rattle.integer.specs.Integer.{positive}
use Rattle.integer.specs.Words.{word}
use Rattle.calendar.specs.Calendar.{first_year, last_year, days_in_year, days_before_year}

-- the year in which a day lies
pub record InYear (d year : ℕ) : Type 0 where
  pub year-from : first_year ≤ year
  pub year-to : year ≤ last_year
  pub day-from : days_before_year year ≤ d
  pub day-to : d < days_before_year year + days_in_year year

-- an entry, as a number of days
abbrev pub entry_at : List ℤ → ℕ → ℕ
entry_at holidays i = positive (word holidays i)

-- the entries below r lie before day d, those from r on do not
pub record FirstFrom (holidays : List ℤ) (d r : ℕ) : Type 0 where
  pub within : r ≤ length holidays
  pub below : (k : ℕ) → k < r → entry_at holidays k < d
  pub above : (k : ℕ) → r ≤ k → k < length holidays → d ≤ entry_at holidays k
