-- What is proved of the calendar, in one place. Assumes nothing.
use Rattle.std.specs.Prelude.{◌≡◌, Bool, true, false, cond, List, ◌↔◌, ℕ, ◌+◌, ◌*◌, ◌%◌, ◌≤◌, ℤ, pos, Some, None}
use Rattle.integer.specs.Integer.{positive}
use Rattle.rulebook.specs.Units.{last_day}
use Rattle.rulebook.specs.Numbers.{past_last_day}
use Rattle.calendar.specs.Calendar.{is_day, is_month, is_date, day_of, date_given, weekday_of, is_proper, is_listed, is_business_day, days_after, is_nth_after, nth_after, statement_day, due_after, date_accepted, day_accepted, day_refused, date_told, day_told, final_statement_told, residual_due_told}
use Rattle.calendar.proofs.laws.CalendarLaws.{day-date_day, date-day_date, weekday-next, proper_ascending, ascending_proper, due_after-month, final_statement-is, final_statement-none, residual_due-is, residual_due-none}
use Rattle.calendar.proofs.laws.BusinessLaws.{days_after-none, days_after-suc, nth-unique}
use Rattle.calendar.specs.CalendarTable.{Ascending, DayGiven, MonthGiven, DateGiven, Listed, BusinessDay, NthBusinessDay, DateTable, DayTable, WeekdayTable, StatementTable, BusinessTable, FinalTable, DueTable}
use Rattle.calendar.proofs.laws.CalendarWordLaws.{day-says, month-says, date-says, listed-says, business-says, nth-says, nth-told, nth-absent}
use Rattle.calendar.proofs.laws.CalendarTableLaws.{date-table, day-table, weekday-table, statement-table, business-table, final-table, due-table}
use Rattle.calendar.proofs.examples.CalendarExamples.{CalendarFigures, calendar_figures}

pub record CalendarTheorems : Type 0 where
  -- the date of a day, given back, is that day, and the day of a date that date; weekdays follow each other
  pub day_date_day : (day : ℤ) → is_day day ≡ true → day_told (pos (date_told day).year) (pos (date_told day).month) (pos (date_told day).day) ≡ day_accepted (positive day)
  pub date_day_date : (year month day : ℤ) → is_date (date_given year month day) ≡ true → date_told (pos (day_told year month day).day) ≡ date_accepted (date_given year month day)
  pub weekday_next : (d : ℕ) → weekday_of (d + 1) ≡ (weekday_of d + 1) % 7
  -- a holiday list is proper exactly if it ascends within the calendar
  pub proper_ascending : (holidays : List ℤ) → is_proper holidays ≡ true → Ascending holidays
  pub ascending_proper : (holidays : List ℤ) → Ascending holidays → is_proper holidays ≡ true
  -- the final statement that is told is the tenth business day after the statement day; where 14 is told there is none
  pub final_statement : (day : ℤ) (holidays : List ℤ) (e : ℕ) → final_statement_told day holidays ≡ day_accepted e
      → (is_nth_after (is_business_day holidays) 10 (statement_day (positive day)) e ≡ true) × (e ≤ last_day)
  pub no_final_statement : (day : ℤ) (holidays : List ℤ) → final_statement_told day holidays ≡ day_refused past_last_day
      → (e : ℕ) → e ≤ last_day → is_nth_after (is_business_day holidays) 10 (statement_day (positive day)) e ≡ false
  -- the due day that is told is the first business day after the 10th of the second month following; where 14 is told there is none
  pub residual_due : (year month : ℤ) (holidays : List ℤ) (e : ℕ) → residual_due_told year month holidays ≡ day_accepted e
      → (is_nth_after (is_business_day holidays) 1 (day_of (due_after (positive year) (positive month))) e ≡ true) × (e ≤ last_day)
  pub no_residual_due : (year month : ℤ) (holidays : List ℤ) → residual_due_told year month holidays ≡ day_refused past_last_day
      → (e : ℕ) → e ≤ last_day → is_nth_after (is_business_day holidays) 1 (day_of (due_after (positive year) (positive month))) e ≡ false
  -- ---- What the words mean

  -- a number given is a day, a month, a date: in 2000 to 2099, and a negative one never
  pub day_means : (day : ℤ) → (is_day day ≡ true) ↔ DayGiven day
  pub month_means : (year month : ℤ) → (is_month (positive year) (positive month) ≡ true) ↔ MonthGiven year month
  pub date_means : (year month day : ℤ) → (is_date (date_given year month day) ≡ true) ↔ DateGiven year month day
  -- listed is an entry of the list; a business day is Monday to Friday and not listed
  pub listed_means : (holidays : List ℤ) (d : ℕ) → (is_listed holidays d ≡ true) ↔ Listed holidays d
  pub business_means : (holidays : List ℤ) (d : ℕ) → (is_business_day holidays d ≡ true) ↔ BusinessDay holidays d
  -- days after d are counted one by one, each that passes once
  pub count_starts : (test : ℕ → Bool) (d e : ℕ) → e ≤ d → days_after test d e ≡ 0
  pub count_next : (test : ℕ → Bool) (d e : ℕ) → d ≤ e → days_after test d (e + 1) ≡ days_after test d e + cond (test (e + 1)) 1 0
  -- the n-th after d passes and up to it there are n; there is one at most; it is what is found, and nothing is found where there is none
  pub nth_means : (holidays : List ℤ) (n d e : ℕ) → (is_nth_after (is_business_day holidays) n d e ≡ true) ↔ NthBusinessDay holidays n d e
  pub nth_unique : (test : ℕ → Bool) (n d e f : ℕ) → is_nth_after test n d e ≡ true → is_nth_after test n d f ≡ true → e ≡ f
  pub nth_found : (test : ℕ → Bool) (n d e : ℕ) → (nth_after test n d ≡ Some e) ↔ ((is_nth_after test n d e ≡ true) × (e ≤ last_day))
  pub nth_nothing : (test : ℕ → Bool) (n d : ℕ) → (nth_after test n d ≡ None) ↔ ((e : ℕ) → e ≤ last_day → is_nth_after test n d e ≡ false)
  -- residual data wait for the 10th of the second month following, months counted through the years
  pub due_month : (year month : ℕ) → is_month year month ≡ true
      → (12 * (due_after year month).year + (due_after year month).month ≡ 12 * year + month + 2) × (1 ≤ (due_after year month).month) × ((due_after year month).month ≤ 12) × ((due_after year month).day ≡ 10)
  -- ---- 12, 13, 14: each exactly if its condition holds and no earlier check struck, and what is told otherwise

  pub date_table : (day : ℤ) → DateTable day
  pub day_table : (year month day : ℤ) → DayTable year month day
  pub weekday_table : (day : ℤ) → WeekdayTable day
  pub statement_table : (day : ℤ) → StatementTable day
  pub business_table : (day : ℤ) (holidays : List ℤ) → BusinessTable day holidays
  pub final_table : (day : ℤ) (holidays : List ℤ) → FinalTable day holidays
  pub due_table : (year month : ℤ) (holidays : List ℤ) → DueTable year month holidays
  -- ---- Examples

  -- document 01's examples, months, leap years, weekdays
  pub figures : CalendarFigures

pub calendar_theorems : CalendarTheorems
calendar_theorems = record {
  day_date_day = day-date_day;
  date_day_date = date-day_date;
  weekday_next = weekday-next;
  proper_ascending = proper_ascending;
  ascending_proper = ascending_proper;
  final_statement = final_statement-is;
  no_final_statement = final_statement-none;
  residual_due = residual_due-is;
  no_residual_due = residual_due-none;
  day_means = day-says;
  month_means = month-says;
  date_means = date-says;
  listed_means = listed-says;
  business_means = business-says;
  count_starts = days_after-none;
  count_next = days_after-suc;
  nth_means = nth-says;
  nth_unique = nth-unique;
  nth_found = nth-told;
  nth_nothing = nth-absent;
  due_month = due_after-month;
  date_table = date-table;
  day_table = day-table;
  weekday_table = weekday-table;
  statement_table = statement-table;
  business_table = business-table;
  final_table = final-table;
  due_table = due-table;
  figures = calendar_figures;
}
