-- Document 01's examples of the calendar, and figures that pin its definitions from outside: month lengths, leap years, weekdays. Assumes nothing.
use Rattle.std.specs.Prelude.{◌≡◌, true, false, ℕ, ◌+◌, negsuc}
use Rattle.std.proofs.Math.Path.{refl}
use mathlib.Core.List.{List, [], ◌∷◌}
use Rattle.std.proofs.Common.{lit≤, lit<}
use Rattle.std.proofs.Math.IntN.{pos}
use Rattle.integer.specs.Below.{fold, tabulate}
use Rattle.calendar.proofs.laws.CalendarLaws.{date-day_date, final_statement-of, final_statement-past, residual_due-of, residual_due-past}
use Rattle.calendar.specs.declared.DayReturned.{DayReturned}
use Rattle.calendar.specs.declared.WeekdayReturned.{WeekdayReturned}
use Rattle.calendar.specs.declared.BusinessReturned.{BusinessReturned}
use Rattle.calendar.specs.Calendar.{is_leap, days_in_year, days_in_month, is_month, is_date, days_before_year, days_before_month, day_of, is_day, weekday_of, in_place, is_proper, is_listed, is_business_day, days_after, is_nth_after, statement_day, due_after, date_told, day_told, weekday_told, statement_told, business_told, search_told, final_statement_told, residual_due_told}

-- number and figure
abbrev day : ℕ → ℕ → DayReturned
day n d = record { number = n; day = d }

abbrev weekday : ℕ → ℕ → WeekdayReturned
weekday n w = record { number = n; weekday = w }

abbrev business : ℕ → ℕ → BusinessReturned
business n b = record { number = n; business = b }

abbrev day_tolds : List DayReturned
day_tolds =
    day_told (pos 2000) (pos 1) (pos 1)
    ∷ day_told (pos 2000) (pos 2) (pos 29)
    ∷ day_told (pos 2026) (pos 1) (pos 1)
    ∷ day_told (pos 2099) (pos 12) (pos 31)
    ∷ []

-- 29 February 2026, the year 2100, months 0, 13 and -1, day 0
abbrev no_dates : List DayReturned
no_dates =
    day_told (pos 2026) (pos 2) (pos 29)
    ∷ day_told (pos 2100) (pos 1) (pos 1)
    ∷ day_told (pos 2026) (pos 0) (pos 1)
    ∷ day_told (pos 2026) (pos 13) (pos 1)
    ∷ day_told (pos 2026) (negsuc 0) (pos 1)
    ∷ day_told (pos 2026) (pos 1) (pos 0)
    ∷ []

-- 1 January of the year -2026, 1 of month -3 and -15 January 2026, whose magnitudes are dates
abbrev negative_dates : List DayReturned
negative_dates =
    day_told (negsuc 2025) (pos 1) (pos 1)
    ∷ day_told (pos 2026) (negsuc 2) (pos 1)
    ∷ day_told (pos 2026) (pos 1) (negsuc 14)
    ∷ day_told (negsuc 2025) (negsuc 0) (negsuc 0)
    ∷ []

-- day -9,497, also with a faulty list
abbrev negative_days : List DayReturned
negative_days =
    statement_told (negsuc 9496)
    ∷ final_statement_told (negsuc 9496) []
    ∷ final_statement_told (negsuc 9496) (pos 5 ∷ pos 5 ∷ [])
    ∷ []

-- January of the year -2026, month -1, months 0 and 13, the years 1999 and 2100
abbrev no_months : List DayReturned
no_months =
    residual_due_told (negsuc 2025) (pos 1) []
    ∷ residual_due_told (pos 2026) (negsuc 0) []
    ∷ residual_due_told (pos 2026) (pos 0) []
    ∷ residual_due_told (pos 2026) (pos 13) []
    ∷ residual_due_told (pos 1999) (pos 12) []
    ∷ residual_due_told (pos 2100) (pos 1) []
    ∷ []

-- January 2026 with 5, 5; with 6, 5; with an entry past the last day; with a negative one
abbrev bad_due_lists : List DayReturned
bad_due_lists =
    residual_due_told (pos 2026) (pos 1) (pos 5 ∷ pos 5 ∷ [])
    ∷ residual_due_told (pos 2026) (pos 1) (pos 6 ∷ pos 5 ∷ [])
    ∷ residual_due_told (pos 2026) (pos 1) (pos 36525 ∷ [])
    ∷ residual_due_told (pos 2026) (pos 1) (negsuc 0 ∷ [])
    ∷ []

-- a faulty list with a month that is none, and with a day that is none
abbrev date_before_lists : List DayReturned
date_before_lists =
    residual_due_told (pos 2026) (pos 13) (pos 5 ∷ pos 5 ∷ [])
    ∷ residual_due_told (pos 2100) (pos 1) (pos 6 ∷ pos 5 ∷ [])
    ∷ final_statement_told (pos 36525) (pos 5 ∷ pos 5 ∷ [])
    ∷ []

-- a faulty list where the result lies past the last day: the tenth business day, d + 75 itself, the due month
abbrev list_before_pasts : List DayReturned
list_before_pasts =
    final_statement_told (pos 36440) (pos 6 ∷ pos 5 ∷ [])
    ∷ final_statement_told (pos 36450) (pos 5 ∷ pos 5 ∷ [])
    ∷ residual_due_told (pos 2099) (pos 11) (pos 5 ∷ pos 5 ∷ [])
    ∷ []

-- 5, 5; an entry past the last day; a negative one; a faulty list on a day that is none
abbrev bad_lists : List BusinessReturned
bad_lists =
    business_told (pos 9497) (pos 5 ∷ pos 5 ∷ [])
    ∷ business_told (pos 9497) (pos 5 ∷ pos 36525 ∷ [])
    ∷ business_told (pos 9497) (negsuc 0 ∷ pos 5 ∷ [])
    ∷ business_told (pos 36525) (pos 5 ∷ pos 5 ∷ [])
    ∷ []

-- 1 January 2026, a Thursday, not listed and listed; then a Friday, a Saturday, a Sunday and a Monday
abbrev open_days : List BusinessReturned
open_days =
    business_told (pos 9497) []
    ∷ business_told (pos 9497) (pos 9497 ∷ [])
    ∷ business_told (pos 9498) []
    ∷ business_told (pos 9499) []
    ∷ business_told (pos 9500) []
    ∷ business_told (pos 9501) []
    ∷ []

abbrev statements : List DayReturned
statements = statement_told (pos 9497) ∷ statement_told (pos 36449) ∷ statement_told (pos 36450) ∷ []

-- 20 and 31 March, 1 April and 11 March 2026, 11 January 2027
abbrev day_numbers : List DayReturned
day_numbers =
    day_told (pos 2026) (pos 3) (pos 20)
    ∷ day_told (pos 2026) (pos 3) (pos 31)
    ∷ day_told (pos 2026) (pos 4) (pos 1)
    ∷ day_told (pos 2026) (pos 3) (pos 11)
    ∷ day_told (pos 2027) (pos 1) (pos 11)
    ∷ []

pub record CalendarFigures : Type 0 where
  -- ---- Months and years

  pub common_year : tabulate 12 (λ k. days_in_month 2026 (k + 1)) ≡ 31 ∷ 28 ∷ 31 ∷ 30 ∷ 31 ∷ 30 ∷ 31 ∷ 31 ∷ 30 ∷ 31 ∷ 30 ∷ 31 ∷ []
  pub leap_years : tabulate 5 (λ k. is_leap (2000 + k)) ≡ true ∷ false ∷ false ∷ false ∷ true ∷ []
  -- ---- Day to date and back

  pub days : day_tolds ≡ day 0 0 ∷ day 0 59 ∷ day 0 9497 ∷ day 0 36524 ∷ []
  pub first_date : date_told (pos 0) ≡ record { number = 0; year = 2000; month = 1; day = 1 }
  pub last_date : date_told (pos 36524) ≡ record { number = 0; year = 2099; month = 12; day = 31 }
  pub no_dates : no_dates ≡ day 12 0 ∷ day 12 0 ∷ day 12 0 ∷ day 12 0 ∷ day 12 0 ∷ day 12 0 ∷ []
  pub negative_day : date_told (negsuc 0) ≡ record { number = 12; year = 0; month = 0; day = 0 }
  pub past_last_day : date_told (pos 36525) ≡ record { number = 12; year = 0; month = 0; day = 0 }
  pub negative_dates : negative_dates ≡ day 12 0 ∷ day 12 0 ∷ day 12 0 ∷ day 12 0 ∷ []
  -- ---- Weekdays

  -- 1 January 2000 was a Saturday; National Day 2026, 9 August, is a Sunday
  pub saturday : weekday_told (pos 0) ≡ weekday 0 0
  pub sunday : weekday_told (pos (day_told (pos 2026) (pos 8) (pos 9)).day) ≡ weekday 0 1
  pub no_weekday : weekday_told (pos 36525) ≡ weekday 12 0
  pub negative_weekday : weekday_told (negsuc 9496) ≡ weekday 12 0
  -- ---- Holiday lists

  pub bad_lists : bad_lists ≡ business 13 0 ∷ business 13 0 ∷ business 13 0 ∷ business 12 0 ∷ []
  -- 13 comes before 14
  pub list_before_past : final_statement_told (pos 36524) (pos 5 ∷ pos 5 ∷ []) ≡ day 13 0
  pub list_before_pasts : list_before_pasts ≡ day 13 0 ∷ day 13 0 ∷ day 13 0 ∷ []
  pub bad_due_lists : bad_due_lists ≡ day 13 0 ∷ day 13 0 ∷ day 13 0 ∷ day 13 0 ∷ []
  -- 12 comes before 13
  pub date_before_lists : date_before_lists ≡ day 12 0 ∷ day 12 0 ∷ day 12 0 ∷ []
  pub negative_business : business_told (negsuc 9496) [] ≡ business 12 0
  pub open_days : open_days ≡ business 0 1 ∷ business 0 0 ∷ business 0 1 ∷ business 0 0 ∷ business 0 0 ∷ business 0 1 ∷ []
  -- ---- Statement days

  pub statement_days : statements ≡ day 0 9572 ∷ day 0 36524 ∷ day 14 0 ∷ []
  pub day_numbers : day_numbers ≡ day 0 9575 ∷ day 0 9586 ∷ day 0 9587 ∷ day 0 9566 ∷ day 0 9872 ∷ []
  -- 1 January 2026 without holidays: 31 March 2026
  pub final : final_statement_told (pos 9497) [] ≡ day 0 9586
  -- with 20 March 2026 listed: 1 April 2026
  pub final_listed : final_statement_told (pos 9497) (pos 9575 ∷ []) ≡ day 0 9587
  -- with Saturday 21 March listed, and with Sunday 22 March too: as without
  pub final_saturday : final_statement_told (pos 9497) (pos 9576 ∷ []) ≡ day 0 9586
  pub final_weekend : final_statement_told (pos 9497) (pos 9576 ∷ pos 9577 ∷ []) ≡ day 0 9586
  -- with 20 and 21 March listed: 1 April
  pub final_friday_saturday : final_statement_told (pos 9497) (pos 9575 ∷ pos 9576 ∷ []) ≡ day 0 9587
  -- with 20 and 23 March listed: 2 April; with 20 March and 1 April listed: 2 April
  pub final_two : final_statement_told (pos 9497) (pos 9575 ∷ pos 9578 ∷ []) ≡ day 0 9588
  pub final_two_later : final_statement_told (pos 9497) (pos 9575 ∷ pos 9587 ∷ []) ≡ day 0 9588
  -- with d + 75, 17 March, and 1 April listed, which lie outside: as without
  pub final_outside : final_statement_told (pos 9497) (pos 9572 ∷ pos 9587 ∷ []) ≡ day 0 9586
  pub negative_days : negative_days ≡ day 12 0 ∷ day 12 0 ∷ day 12 0 ∷ []
  -- day 36,440 plus 75 is in the calendar, the tenth business day after it is not
  pub no_final : final_statement_told (pos 36440) [] ≡ day 14 0
  -- ---- Due days

  -- January 2026: 11 March 2026
  pub due : residual_due_told (pos 2026) (pos 1) [] ≡ day 0 9566
  -- with 11 March listed: 12 March; with 10 March listed: as without
  pub due_listed : residual_due_told (pos 2026) (pos 1) (pos 9566 ∷ []) ≡ day 0 9567
  pub due_tenth_listed : residual_due_told (pos 2026) (pos 1) (pos 9565 ∷ []) ≡ day 0 9566
  -- February 2026: 11 April is a Saturday, listed or not, so 13 April
  pub due_weekend : residual_due_told (pos 2026) (pos 2) (pos 9597 ∷ []) ≡ day 0 9599
  -- November 2026: 11 January 2027
  pub due_next_year : residual_due_told (pos 2026) (pos 11) [] ≡ day 0 9872
  -- November 2099: January 2100 is past the calendar
  pub no_due : residual_due_told (pos 2099) (pos 11) [] ≡ day 14 0
  pub no_due_month : residual_due_told (pos 2026) (pos 0) [] ≡ day 12 0
  pub no_months : no_months ≡ day 12 0 ∷ day 12 0 ∷ day 12 0 ∷ day 12 0 ∷ day 12 0 ∷ day 12 0 ∷ []

pub calendar_figures : CalendarFigures
calendar_figures = record {
  common_year = unfold tabulate days_in_month is_leap in refl;
  leap_years = unfold tabulate is_leap in refl;
  days = unfold day_told is_date is_month day_of days_before_year days_before_month days_in_year days_in_month is_leap fold in refl;
  first_date = unfold day_told is_date is_month day_of days_before_year days_before_month days_in_year days_in_month is_leap fold in date-day_date (pos 2000) (pos 1) (pos 1) refl;
  last_date = unfold day_told is_date is_month day_of days_before_year days_before_month days_in_year days_in_month is_leap fold in date-day_date (pos 2099) (pos 12) (pos 31) refl;
  no_dates = unfold day_told is_date is_month days_in_month is_leap in refl;
  negative_day = unfold date_told is_day in refl;
  past_last_day = unfold date_told is_day in refl;
  negative_dates = unfold day_told is_date is_month days_in_month is_leap in refl;
  saturday = unfold weekday_told is_day weekday_of in refl;
  sunday = unfold weekday_told is_day weekday_of day_told is_date is_month day_of days_before_year days_before_month days_in_year days_in_month is_leap fold in refl;
  no_weekday = unfold weekday_told is_day in refl;
  negative_weekday = unfold weekday_told is_day in refl;
  bad_lists = unfold business_told is_day is_proper in_place fold in refl;
  list_before_past = unfold final_statement_told search_told is_day is_proper in_place fold in refl;
  list_before_pasts = unfold final_statement_told residual_due_told search_told is_day is_month is_proper in_place fold in refl;
  bad_due_lists = unfold residual_due_told search_told is_day is_month is_proper in_place fold in refl;
  date_before_lists = unfold final_statement_told residual_due_told search_told is_day is_month is_proper in_place fold in refl;
  negative_business = unfold business_told is_day in refl;
  open_days = unfold business_told is_day is_proper in_place is_business_day is_listed weekday_of fold in refl;
  statement_days = unfold statement_told is_day statement_day in refl;
  day_numbers = unfold day_told is_date is_month day_of days_before_year days_before_month days_in_year days_in_month is_leap fold in refl;
  final = unfold is_day is_proper is_nth_after days_after is_business_day is_listed weekday_of statement_day fold in final_statement-of (pos 9497) [] refl refl 9586 refl (lit≤ tt);
  final_listed = unfold is_day is_proper in_place is_nth_after days_after is_business_day is_listed weekday_of statement_day fold in final_statement-of (pos 9497) (pos 9575 ∷ []) refl refl 9587 refl (lit≤ tt);
  final_saturday = unfold is_day is_proper in_place is_nth_after days_after is_business_day is_listed weekday_of statement_day fold in final_statement-of (pos 9497) (pos 9576 ∷ []) refl refl 9586 refl (lit≤ tt);
  final_weekend = unfold is_day is_proper in_place is_nth_after days_after is_business_day is_listed weekday_of statement_day fold in final_statement-of (pos 9497) (pos 9576 ∷ pos 9577 ∷ []) refl refl 9586 refl (lit≤ tt);
  final_friday_saturday = unfold is_day is_proper in_place is_nth_after days_after is_business_day is_listed weekday_of statement_day fold in final_statement-of (pos 9497) (pos 9575 ∷ pos 9576 ∷ []) refl refl 9587 refl (lit≤ tt);
  final_two = unfold is_day is_proper in_place is_nth_after days_after is_business_day is_listed weekday_of statement_day fold in final_statement-of (pos 9497) (pos 9575 ∷ pos 9578 ∷ []) refl refl 9588 refl (lit≤ tt);
  final_two_later = unfold is_day is_proper in_place is_nth_after days_after is_business_day is_listed weekday_of statement_day fold in final_statement-of (pos 9497) (pos 9575 ∷ pos 9587 ∷ []) refl refl 9588 refl (lit≤ tt);
  final_outside = unfold is_day is_proper in_place is_nth_after days_after is_business_day is_listed weekday_of statement_day fold in final_statement-of (pos 9497) (pos 9572 ∷ pos 9587 ∷ []) refl refl 9586 refl (lit≤ tt);
  negative_days = unfold statement_told final_statement_told search_told is_day is_proper in_place fold in refl;
  no_final = unfold is_day is_proper days_after is_business_day is_listed weekday_of statement_day fold in final_statement-past (pos 36440) [] refl refl (lit< tt);
  due = unfold is_month is_proper is_nth_after days_after is_business_day is_listed weekday_of due_after day_of days_before_year days_before_month days_in_year days_in_month is_leap fold in residual_due-of (pos 2026) (pos 1) [] refl refl 9566 refl (lit≤ tt);
  due_listed = unfold is_month is_day is_proper in_place is_nth_after days_after is_business_day is_listed weekday_of due_after day_of days_before_year days_before_month days_in_year days_in_month is_leap fold in residual_due-of (pos 2026) (pos 1) (pos 9566 ∷ []) refl refl 9567 refl (lit≤ tt);
  due_tenth_listed = unfold is_month is_day is_proper in_place is_nth_after days_after is_business_day is_listed weekday_of due_after day_of days_before_year days_before_month days_in_year days_in_month is_leap fold in residual_due-of (pos 2026) (pos 1) (pos 9565 ∷ []) refl refl 9566 refl (lit≤ tt);
  due_weekend = unfold is_month is_day is_proper in_place is_nth_after days_after is_business_day is_listed weekday_of due_after day_of days_before_year days_before_month days_in_year days_in_month is_leap fold in residual_due-of (pos 2026) (pos 2) (pos 9597 ∷ []) refl refl 9599 refl (lit≤ tt);
  due_next_year = unfold is_month is_proper is_nth_after days_after is_business_day is_listed weekday_of due_after day_of days_before_year days_before_month days_in_year days_in_month is_leap fold in residual_due-of (pos 2026) (pos 11) [] refl refl 9872 refl (lit≤ tt);
  no_due = unfold is_month is_proper days_after due_after day_of days_before_year days_before_month days_in_year days_in_month is_leap fold in residual_due-past (pos 2099) (pos 11) [] refl refl (lit< tt);
  no_due_month = unfold residual_due_told search_told is_month is_proper fold in refl;
  no_months = unfold residual_due_told search_told is_month is_proper fold in refl;
}
