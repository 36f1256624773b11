-- Document 01, "Calendar (003)": dates, weekdays, business days, statement and due days, and what each call returns. Assumes nothing.
use Rattle.std.specs.Prelude.{Bool, false, cond, not, ◌&&◌, ◌||◌, List, ℕ, ◌+◌, ◌-◌, ◌%◌, leb, ltb, eqb, ℤ, pos, negsuc, length, Option, Some, None, Result, Ok, Err}
use Rattle.std.specs.Int.Signed.{lt_z}
use Rattle.integer.specs.Integer.{positive}
use Rattle.integer.specs.Words.{word}
use Rattle.integer.specs.Below.{sum_ℕ, all, any, count, first, turns}
use Rattle.rulebook.specs.Units.{last_day, between}
use Rattle.rulebook.specs.Numbers.{accepted, no_such_date, bad_holidays, past_last_day, checked}
use Rattle.calendar.specs.declared.CalendarError.{CalendarError}
use Rattle.calendar.specs.declared.CalendarError.TheVariants.{NoSuchDate, BadHolidays, PastLastDay}
pub use Rattle.calendar.specs.declared.Date.{Date}
use Rattle.calendar.specs.declared.DateReturned.{DateReturned}
use Rattle.calendar.specs.declared.DayReturned.{DayReturned}
use Rattle.calendar.specs.declared.WeekdayReturned.{WeekdayReturned}
use Rattle.calendar.specs.declared.BusinessReturned.{BusinessReturned}

-- ---- Years and months

abbrev pub first_year : ℕ
first_year = 2000

abbrev pub last_year : ℕ
last_year = 2099

-- every fourth year, with no exception in 2000 to 2099
unfoldable pub is_leap : ℕ → Bool
is_leap year = eqb (year % 4) 0

unfoldable pub days_in_year : ℕ → ℕ
days_in_year year = cond (is_leap year) 366 365

-- January is month 1
unfoldable pub days_in_month : ℕ → ℕ → ℕ
days_in_month year month =
    cond (eqb month 2) (cond (is_leap year) 29 28)
    (cond (eqb month 4 || (eqb month 6 || (eqb month 9 || eqb month 11))) 30 31)

-- ---- Dates and days

abbrev pub within : ℕ → ℕ → ℕ → Bool
within low high n = leb low n && leb n high

-- there is such a month in 2000 to 2099
unfoldable pub is_month : ℕ → ℕ → Bool
is_month year month = within first_year last_year year && within 1 12 month

-- there is such a date in 2000 to 2099
unfoldable pub is_date : Date → Bool
is_date date = is_month date.year date.month && within 1 (days_in_month date.year date.month) date.day

-- the days of the years before this one
unfoldable pub days_before_year : ℕ → ℕ
days_before_year year = sum_ℕ (year - first_year) (λ k. days_in_year (first_year + k))

-- the days of this year's months before this one
unfoldable pub days_before_month : ℕ → ℕ → ℕ
days_before_month year month = sum_ℕ (month - 1) (λ k. days_in_month year (1 + k))

-- days since 1 January 2000: all that lies before the date
unfoldable pub day_of : Date → ℕ
day_of date = days_before_year date.year + days_before_month date.year date.month + (date.day - 1)

-- the date one day later
unfoldable pub next_date : Date → Date
next_date date =
    cond (ltb date.day (days_in_month date.year date.month)) (record { year = date.year; month = date.month; day = date.day + 1 })
    (cond (ltb date.month 12) (record { year = date.year; month = date.month + 1; day = 1 }) (record { year = date.year + 1; month = 1; day = 1 }))

-- the date d days after 1 January 2000
unfoldable pub date_of : ℕ → Date
date_of d = turns d (λ k. next_date) (record { year = first_year; month = 1; day = 1 })

-- the number given for a day is one
unfoldable pub is_day : ℤ → Bool
is_day z = between (pos 0) (pos last_day) z

-- a negative number is read as 0, which is no year, month or day of a month
abbrev pub date_given : ℤ → ℤ → ℤ → Date
date_given year month day = record { year = positive year; month = positive month; day = positive day }

-- ---- Business days

-- 0 is Saturday, 6 is Friday
unfoldable pub weekday_of : ℕ → ℕ
weekday_of d = d % 7

abbrev pub monday : ℕ
monday = 2

abbrev pub friday : ℕ
friday = 6

-- the list's entry at an index is later than the entry before it
abbrev pub is_later : List ℤ → ℕ → Bool
is_later holidays i = eqb i 0 || lt_z (word holidays (i - 1)) (word holidays i)

-- and a day
unfoldable pub in_place : List ℤ → ℕ → Bool
in_place holidays i = is_day (word holidays i) && is_later holidays i

-- strictly ascending in 0 to 36,524
unfoldable pub is_proper : List ℤ → Bool
is_proper holidays = all (length holidays) (in_place holidays)

abbrev pub is_entry : ℤ → ℕ → Bool
is_entry (pos n) d = eqb n d
is_entry (negsuc n) d = false

unfoldable pub is_listed : List ℤ → ℕ → Bool
is_listed holidays d = any (length holidays) (λ i. is_entry (word holidays i) d)

-- Monday to Friday, and not in the list
unfoldable pub is_business_day : List ℤ → ℕ → Bool
is_business_day holidays d = within monday friday (weekday_of d) && not (is_listed holidays d)

-- how many days after d, up to and including e, pass the test
unfoldable pub days_after : (ℕ → Bool) → ℕ → ℕ → ℕ
days_after test d e = count (e - d) (λ k. test (d + 1 + k))

-- e is the n-th day after d that passes: it passes, and up to it there are n
unfoldable pub is_nth_after : (ℕ → Bool) → ℕ → ℕ → ℕ → Bool
is_nth_after test n d e = ltb d e && (test e && eqb (days_after test d e) n)

-- the n-th day after d that passes, if there is one up to 31 December 2099
unfoldable pub nth_after : (ℕ → Bool) → ℕ → ℕ → Option ℕ
nth_after test n d = first (last_day + 1) (λ e. cond (is_nth_after test n d e) (Some e) None)

-- ---- Statement and due days

-- 003, 2.5.10: the residual's statement is that of the 75th calendar day after its trading day
unfoldable pub statement_day : ℕ → ℕ
statement_day d = d + 75

-- 003: the tenth business day after the statement day
unfoldable pub final_statement : List ℤ → ℕ → Option ℕ
final_statement holidays d = nth_after (is_business_day holidays) 10 (statement_day d)

-- the 10th of the second month following
unfoldable pub due_after : ℕ → ℕ → Date
due_after year month =
    cond (ltb 10 month) (record { year = year + 1; month = month - 10; day = 10 })
    (record { year = year; month = month + 2; day = 10 })

-- 003, 2.5.7: the first business day after it
unfoldable pub due_day : List ℤ → ℕ → ℕ → Option ℕ
due_day holidays year month = nth_after (is_business_day holidays) 1 (day_of (due_after year month))

-- ---- What each call returns: number and figures; refused, every figure is 0

abbrev pub date_accepted : Date → DateReturned
date_accepted date = record { number = accepted; year = date.year; month = date.month; day = date.day }

abbrev pub date_refused : ℕ → DateReturned
date_refused n = record { number = n; year = 0; month = 0; day = 0 }

abbrev pub day_accepted : ℕ → DayReturned
day_accepted d = record { number = accepted; day = d }

abbrev pub day_refused : ℕ → DayReturned
day_refused n = record { number = n; day = 0 }

abbrev pub weekday_accepted : ℕ → WeekdayReturned
weekday_accepted w = record { number = accepted; weekday = w }

abbrev pub weekday_refused : ℕ → WeekdayReturned
weekday_refused n = record { number = n; weekday = 0 }

abbrev pub business_accepted : Bool → BusinessReturned
business_accepted b = record { number = accepted; business = cond b 1 0 }

abbrev pub business_refused : ℕ → BusinessReturned
business_refused n = record { number = n; business = 0 }

abbrev pub calendar_number : CalendarError → ℕ
calendar_number NoSuchDate = no_such_date
calendar_number BadHolidays = bad_holidays
calendar_number PastLastDay = past_last_day

abbrev pub date_returned : Result Date CalendarError → DateReturned
date_returned (Ok date) = date_accepted date
date_returned (Err e) = date_refused (calendar_number e)

abbrev pub day_returned : Result ℕ CalendarError → DayReturned
day_returned (Ok d) = day_accepted d
day_returned (Err e) = day_refused (calendar_number e)

abbrev pub weekday_returned : Result ℕ CalendarError → WeekdayReturned
weekday_returned (Ok w) = weekday_accepted w
weekday_returned (Err e) = weekday_refused (calendar_number e)

abbrev pub business_returned : Result Bool CalendarError → BusinessReturned
business_returned (Ok b) = business_accepted b
business_returned (Err e) = business_refused (calendar_number e)

-- ---- The calls; checks stand in the order in which they are tried: 12, 13, 14

abbrev pub up_to_last_day : Option ℕ → DayReturned
up_to_last_day (Some d) = day_accepted d
up_to_last_day None = day_refused past_last_day

unfoldable pub date_told : ℤ → DateReturned
date_told day = checked (is_day day) (date_refused no_such_date) (date_accepted (date_of (positive day)))

unfoldable pub day_told : ℤ → ℤ → ℤ → DayReturned
day_told year month day = checked (is_date (date_given year month day)) (day_refused no_such_date) (day_accepted (day_of (date_given year month day)))

unfoldable pub weekday_told : ℤ → WeekdayReturned
weekday_told day = checked (is_day day) (weekday_refused no_such_date) (weekday_accepted (weekday_of (positive day)))

unfoldable pub statement_told : ℤ → DayReturned
statement_told day =
    checked (is_day day) (day_refused no_such_date)
    (checked (leb (statement_day (positive day)) last_day) (day_refused past_last_day)
    (day_accepted (statement_day (positive day))))

unfoldable pub business_told : ℤ → List ℤ → BusinessReturned
business_told day holidays =
    checked (is_day day) (business_refused no_such_date)
    (checked (is_proper holidays) (business_refused bad_holidays)
    (business_accepted (is_business_day holidays (positive day))))

-- a business day that is searched for in a list
unfoldable pub search_told : Bool → List ℤ → Option ℕ → DayReturned
search_told given holidays found =
    checked given (day_refused no_such_date)
    (checked (is_proper holidays) (day_refused bad_holidays)
    (up_to_last_day found))

unfoldable pub final_statement_told : ℤ → List ℤ → DayReturned
final_statement_told day holidays = search_told (is_day day) holidays (final_statement holidays (positive day))

unfoldable pub residual_due_told : ℤ → ℤ → List ℤ → DayReturned
residual_due_told year month holidays = search_told (is_month (positive year) (positive month)) holidays (due_day holidays (positive year) (positive month))
