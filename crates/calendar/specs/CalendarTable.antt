-- What document 01's words on days, lists and numbers 12 to 14 mean, in its own figures, and the number that each call returns. Assumes nothing.
use Rattle.std.specs.Prelude.{◌≡◌, ◌↔◌, List, ℕ, ◌+◌, ◌%◌, ◌≤◌, ◌<◌, ℤ, pos, length, ◌≤ℤ◌, ◌<ℤ◌}
use Rattle.integer.specs.Integer.{positive}
use Rattle.integer.specs.Words.{word}
use Rattle.calendar.specs.declared.DayReturned.{DayReturned}
use Rattle.calendar.specs.Calendar.{days_in_month, day_of, date_given, date_of, weekday_of, is_business_day, days_after, due_after, date_accepted, date_refused, day_accepted, day_refused, weekday_accepted, weekday_refused, business_refused, date_told, day_told, weekday_told, statement_told, business_told, final_statement_told, residual_due_told}

-- a holiday list: strictly ascending in 0 to 36,524
pub record Ascending (holidays : List ℤ) : Type 0 where
  pub from : (i : ℕ) → i < length holidays → pos 0 ≤ℤ word holidays i
  pub to : (i : ℕ) → i < length holidays → word holidays i ≤ℤ pos 36524
  pub later : (i j : ℕ) → i < j → j < length holidays → word holidays i <ℤ word holidays j

-- ---- What is given

-- a day, 0 to 36,524
pub record DayGiven (day : ℤ) : Type 0 where
  pub from : pos 0 ≤ℤ day
  pub to : day ≤ℤ pos 36524

-- a month in 2000 to 2099
pub record MonthGiven (year month : ℤ) : Type 0 where
  pub year-from : pos 2000 ≤ℤ year
  pub year-to : year ≤ℤ pos 2099
  pub month-from : pos 1 ≤ℤ month
  pub month-to : month ≤ℤ pos 12

-- a date in 2000 to 2099
pub record DateGiven (year month day : ℤ) : Type 0 where
  pub in_month : MonthGiven year month
  pub from : pos 1 ≤ℤ day
  pub to : day ≤ℤ pos (days_in_month (positive year) (positive month))

-- ---- Business days

-- an entry of the list
abbrev pub Listed : List ℤ → ℕ → Type 0
Listed holidays d = (i : ℕ) × (i < length holidays) × (word holidays i ≡ pos d)

-- Monday (2) to Friday (6), and not in the list
pub record BusinessDay (holidays : List ℤ) (d : ℕ) : Type 0 where
  pub from : 2 ≤ d % 7
  pub to : d % 7 ≤ 6
  pub not_listed : ¬ Listed holidays d

-- the n-th business day after d: there are n after d up to and with it
pub record NthBusinessDay (holidays : List ℤ) (n d e : ℕ) : Type 0 where
  pub after : d < e
  pub business : BusinessDay holidays e
  pub as_many : days_after (is_business_day holidays) d e ≡ n

-- ---- The number that a call returns: each exactly if its condition holds and no earlier check struck

pub record DateTable (day : ℤ) : Type 0 where
  pub told : (date_told day ≡ date_accepted (date_of (positive day))) ↔ DayGiven day
  pub no_such_date : (date_told day ≡ date_refused 12) ↔ (¬ DayGiven day)

pub record DayTable (year month day : ℤ) : Type 0 where
  pub told : (day_told year month day ≡ day_accepted (day_of (date_given year month day))) ↔ DateGiven year month day
  pub no_such_date : (day_told year month day ≡ day_refused 12) ↔ (¬ DateGiven year month day)

pub record WeekdayTable (day : ℤ) : Type 0 where
  pub told : (weekday_told day ≡ weekday_accepted (weekday_of (positive day))) ↔ DayGiven day
  pub no_such_date : (weekday_told day ≡ weekday_refused 12) ↔ (¬ DayGiven day)

pub record StatementTable (day : ℤ) : Type 0 where
  pub told : (e : ℕ) → (statement_told day ≡ day_accepted e) ↔ (DayGiven day × ((e ≡ positive day + 75) × (e ≤ 36524)))
  pub no_such_date : (statement_told day ≡ day_refused 12) ↔ (¬ DayGiven day)
  pub past_last_day : (statement_told day ≡ day_refused 14) ↔ (DayGiven day × (36524 < positive day + 75))

pub record BusinessTable (day : ℤ) (holidays : List ℤ) : Type 0 where
  pub business : (business_told day holidays ≡ record { number = 0; business = 1 }) ↔ (DayGiven day × (Ascending holidays × BusinessDay holidays (positive day)))
  pub none : (business_told day holidays ≡ record { number = 0; business = 0 }) ↔ (DayGiven day × (Ascending holidays × (¬ BusinessDay holidays (positive day))))
  pub no_such_date : (business_told day holidays ≡ business_refused 12) ↔ (¬ DayGiven day)
  pub bad_holidays : (business_told day holidays ≡ business_refused 13) ↔ (DayGiven day × (¬ Ascending holidays))

-- of a call that searches for the n-th business day after day d
pub record SearchTable (returned : DayReturned) (Given : Type 0) (holidays : List ℤ) (n d : ℕ) : Type 0 where
  pub told : (e : ℕ) → (returned ≡ day_accepted e) ↔ (Given × (Ascending holidays × (NthBusinessDay holidays n d e × (e ≤ 36524))))
  pub no_such_date : (returned ≡ day_refused 12) ↔ (¬ Given)
  pub bad_holidays : (returned ≡ day_refused 13) ↔ (Given × (¬ Ascending holidays))
  pub past_last_day : (returned ≡ day_refused 14) ↔ (Given × (Ascending holidays × ((e : ℕ) → e ≤ 36524 → ¬ NthBusinessDay holidays n d e)))

abbrev pub FinalTable : ℤ → List ℤ → Type 0
FinalTable day holidays = SearchTable (final_statement_told day holidays) (DayGiven day) holidays 10 (positive day + 75)

abbrev pub DueTable : ℤ → ℤ → List ℤ → Type 0
DueTable year month holidays = SearchTable (residual_due_told year month holidays) (MonthGiven year month) holidays 1 (day_of (due_after (positive year) (positive month)))
