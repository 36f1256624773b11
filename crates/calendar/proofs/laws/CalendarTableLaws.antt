-- The calendar's checks in turn give its table of numbers. Assumes nothing.
use Rattle.std.specs.Prelude.{◌≡◌, refl, Bool, true, false, List, ◌↔◌, ℕ, ◌+◌, ◌≤◌, ◌<◌, leb, eqb, ℤ, Option, Some, None}
use Rattle.std.proofs.Common.{sym, ap, ⊎_elim, arith, leb-true, le-leb}
use Rattle.integer.specs.Integer.{positive}
use Rattle.integer.proofs.laws.BelowLaws.{lt_or_le}
use Rattle.rulebook.specs.Units.{last_day}
use Rattle.rulebook.specs.Numbers.{checked}
use Rattle.rulebook.proofs.laws.CheckedLaws.{test-fails, then, differ, struck, met, met-last}
use Rattle.calendar.specs.declared.DateReturned.{DateReturned}
use Rattle.calendar.specs.declared.DayReturned.{DayReturned}
use Rattle.calendar.specs.declared.WeekdayReturned.{WeekdayReturned}
use Rattle.calendar.specs.declared.BusinessReturned.{BusinessReturned}
use Rattle.calendar.specs.Calendar.{is_day, is_date, is_month, day_of, date_given, date_of, weekday_of, is_proper, is_business_day, is_nth_after, nth_after, statement_day, final_statement, due_after, due_day, date_accepted, date_refused, day_accepted, day_refused, weekday_accepted, weekday_refused, business_accepted, business_refused, up_to_last_day, search_told, date_told, day_told, weekday_told, statement_told, business_told, final_statement_told, residual_due_told}
use Rattle.calendar.specs.CalendarTable.{BusinessDay, NthBusinessDay, DateTable, DayTable, WeekdayTable, StatementTable, BusinessTable, SearchTable, FinalTable, DueTable}
use Rattle.calendar.proofs.laws.CalendarWordLaws.{day-says, month-says, date-says, list_says, business-says, nth-says, nth-told, nth-absent}

abbrev date_number : DateReturned → ℕ
date_number r = r.number

abbrev weekday_number : WeekdayReturned → ℕ
weekday_number r = r.number

abbrev business_number : BusinessReturned → ℕ
business_number r = r.number

abbrev day_number : DayReturned → ℕ
day_number r = r.number

-- ---- Calls on a day or a date

pub date-table : (day : ℤ) → DateTable day
unfolding date_told
date-table day =
    let answer = date_accepted (date_of (positive day)) in
    record {
      told = met-last date_number (is_day day) (day-says day) (date_refused 12) answer refl;
      no_such_date = struck date_number (is_day day) (day-says day) (date_refused 12) answer refl;
    }

pub day-table : (year month day : ℤ) → DayTable year month day
unfolding day_told
day-table year month day =
    let date = date_given year month day in
    record {
      told = met-last day_number (is_date date) (date-says year month day) (day_refused 12) (day_accepted (day_of date)) refl;
      no_such_date = struck day_number (is_date date) (date-says year month day) (day_refused 12) (day_accepted (day_of date)) refl;
    }

pub weekday-table : (day : ℤ) → WeekdayTable day
unfolding weekday_told
weekday-table day =
    let answer = weekday_accepted (weekday_of (positive day)) in
    record {
      told = met-last weekday_number (is_day day) (day-says day) (weekday_refused 12) answer refl;
      no_such_date = struck weekday_number (is_day day) (day-says day) (weekday_refused 12) answer refl;
    }

module _ (day : ℤ) where
  abbrev stated : ℕ
  stated = positive day + 75

  abbrev in_calendar : Bool
  in_calendar = leb stated last_day

  abbrev statement : Bool → DayReturned
  statement t = checked t (day_refused 14) (day_accepted stated)

  in_calendar_lem : (in_calendar ≡ true) ↔ (stated ≤ last_day)
  in_calendar_lem = (leb-true stated last_day, le-leb stated last_day)

  statement-is : (e : ℕ) → (statement in_calendar ≡ day_accepted e) ↔ ((e ≡ stated) × (e ≤ 36524))
  statement-is e =
      let r = met day_number in_calendar in_calendar_lem (day_refused 14) (day_accepted stated) (day_accepted e) refl in (
        λ q. let s = r.0 q in let k : stated ≡ e = ap (λ (x : DayReturned). x.day) s.1 in (sym k, omega (arith, s.0)),
        λ s. r.1 (omega (arith, s), ap day_accepted (sym s.0)),
      )

  statement-past : (statement in_calendar ≡ day_refused 14) ↔ (36524 < stated)
  statement-past =
      let r = struck day_number in_calendar in_calendar_lem (day_refused 14) (day_accepted stated) refl in
      (λ q. ⊎_elim (λ k. k) (λ k. absurd (r.0 q k)) (lt_or_le last_day stated), λ l. r.1 (λ k. omega arith))

  statement-number : (t : Bool) → eqb (statement t).number 12 ≡ false
  statement-number true = refl
  statement-number false = refl

  pub statement-table : StatementTable day
  unfolding statement_told statement_day
  statement-table =
      let first = met day_number (is_day day) (day-says day) (day_refused 12) (statement in_calendar) in
      record {
        told = λ e. then (first (day_accepted e) refl) (statement-is e);
        no_such_date = struck day_number (is_day day) (day-says day) (day_refused 12) (statement in_calendar) (statement-number in_calendar);
        past_last_day = then (first (day_refused 14) refl) statement-past;
      }

-- ---- Calls with a list

module _ (day : ℤ) (holidays : List ℤ) where
  abbrev judgement : Bool → BusinessReturned
  judgement t = checked t (business_refused 13) (business_accepted (is_business_day holidays (positive day)))

  business-is : (business_accepted (is_business_day holidays (positive day)) ≡ record { number = 0; business = 1 }) ↔ BusinessDay holidays (positive day)
  business-is =
      let r = business-says holidays (positive day) in
      (λ q. r.0 (is (is_business_day holidays (positive day)) q), λ b. ap business_accepted (r.1 b))
    where
      is : (t : Bool) → business_accepted t ≡ record { number = 0; business = 1 } → t ≡ true
      is true q = refl
      is false q = absurd (let z : ◌≡◌ {A = ℕ} 0 1 = ap (λ (x : BusinessReturned). x.business) q in omega arith)

  business-not : (business_accepted (is_business_day holidays (positive day)) ≡ record { number = 0; business = 0 }) ↔ (¬ BusinessDay holidays (positive day))
  business-not =
      let r = test-fails (is_business_day holidays (positive day)) (business-says holidays (positive day)) in
      (λ q. r.0 (is (is_business_day holidays (positive day)) q), λ b. ap business_accepted (r.1 b))
    where
      is : (t : Bool) → business_accepted t ≡ record { number = 0; business = 0 } → t ≡ false
      is true q = absurd (let z : ◌≡◌ {A = ℕ} 1 0 = ap (λ (x : BusinessReturned). x.business) q in omega arith)
      is false q = refl

  judgement-number : (t : Bool) → eqb (judgement t).number 12 ≡ false
  judgement-number true = refl
  judgement-number false = refl

  pub business-table : BusinessTable day holidays
  unfolding business_told
  business-table =
      let proper = is_proper holidays in
      let answer = business_accepted (is_business_day holidays (positive day)) in
      let first = met business_number (is_day day) (day-says day) (business_refused 12) (judgement proper) in
      let second = met business_number proper (list_says holidays) (business_refused 13) answer in
      let yes : BusinessReturned = record { number = 0; business = 1 } in
      let no : BusinessReturned = record { number = 0; business = 0 } in
      record {
        business = then (first yes refl) (then (second yes refl) business-is);
        none = then (first no refl) (then (second no refl) business-not);
        no_such_date = struck business_number (is_day day) (day-says day) (business_refused 12) (judgement proper) (judgement-number proper);
        bad_holidays = then (first (business_refused 13) refl) (struck business_number proper (list_says holidays) (business_refused 13) answer refl);
      }

module _ (holidays : List ℤ) (n d : ℕ) where
  abbrev nth_of : Option ℕ
  nth_of = nth_after (is_business_day holidays) n d

  found-is : (e : ℕ) → (up_to_last_day nth_of ≡ day_accepted e) ↔ (NthBusinessDay holidays n d e × (e ≤ 36524))
  found-is e =
      let r = nth-told (is_business_day holidays) n d e in
      let s = nth-says holidays n d e in
      (λ q. let t = r.0 (at nth_of q) in (s.0 t.0, t.1), λ v. ap up_to_last_day (r.1 (s.1 v.0, v.1)))
    where
      at : (f : Option ℕ) → up_to_last_day f ≡ day_accepted e → f ≡ Some e
      at (Some x) q = ap Some (ap (λ (r : DayReturned). r.day) q)
      at None q = absurd (differ day_number (day_refused 14) (day_accepted e) refl q)

  found_none : (up_to_last_day nth_of ≡ day_refused 14) ↔ ((e : ℕ) → e ≤ 36524 → ¬ NthBusinessDay holidays n d e)
  found_none =
      let r = nth-absent (is_business_day holidays) n d in
      (λ q e l. (isnt e).0 (r.0 (none nth_of q) e l), λ h. ap up_to_last_day (r.1 (λ e l. (isnt e).1 (h e l))))
    where
      isnt : (e : ℕ) → (is_nth_after (is_business_day holidays) n d e ≡ false) ↔ (¬ NthBusinessDay holidays n d e)
      isnt e = test-fails (is_nth_after (is_business_day holidays) n d e) (nth-says holidays n d e)

      none : (f : Option ℕ) → up_to_last_day f ≡ day_refused 14 → f ≡ None
      none (Some x) q = absurd (differ day_number (day_accepted x) (day_refused 14) refl q)
      none None q = refl

  found_number : (f : Option ℕ) → eqb (up_to_last_day f).number 13 ≡ false
  found_number (Some x) = refl
  found_number None = refl

  list_number : (t : Bool) (f : Option ℕ) → eqb (checked t (day_refused 13) (up_to_last_day f)).number 12 ≡ false
  list_number true (Some x) = refl
  list_number true None = refl
  list_number false f = refl

  search-table : {Given : Type 0} (given : Bool) → (given ≡ true) ↔ Given → SearchTable (search_told given holidays nth_of) Given holidays n d
  unfolding search_told
  search-table given says =
      let proper = is_proper holidays in
      let rest = checked proper (day_refused 13) (up_to_last_day nth_of) in
      let first = met day_number given says (day_refused 12) rest in
      let second = met day_number proper (list_says holidays) (day_refused 13) (up_to_last_day nth_of) in
      record {
        told = λ e. then (first (day_accepted e) refl) (then (second (day_accepted e) refl) (found-is e));
        no_such_date = struck day_number given says (day_refused 12) rest (list_number proper nth_of);
        bad_holidays = then (first (day_refused 13) refl) (struck day_number proper (list_says holidays) (day_refused 13) (up_to_last_day nth_of) (found_number nth_of));
        past_last_day = then (first (day_refused 14) refl) (then (second (day_refused 14) refl) found_none);
      }

pub final-table : (day : ℤ) (holidays : List ℤ) → FinalTable day holidays
unfolding final_statement_told final_statement statement_day
final-table day holidays = search-table holidays 10 (positive day + 75) (is_day day) (day-says day)

pub due-table : (year month : ℤ) (holidays : List ℤ) → DueTable year month holidays
unfolding residual_due_told due_day
due-table year month holidays =
    search-table holidays 1 (day_of (due_after (positive year) (positive month))) (is_month (positive year) (positive month)) (month-says year month)
