-- The calendar's tests say what document 01's words mean. Assumes nothing.
use Rattle.std.specs.Prelude.{◌≡◌, refl, Bool, true, false, cond, not, List, ◌↔◌, ℕ, ◌+◌, ◌≤◌, ℤ, pos, Some, None}
use Rattle.std.proofs.Common.{arith}
use Rattle.std.specs.Int.Signed.{le_z}
use Rattle.integer.specs.Integer.{positive}
use Rattle.integer.proofs.laws.IntegerLaws.{int, parts, le_test, le_true, le_parts, parts-le}
use Rattle.integer.proofs.laws.BelowLaws.{and-true, nothing-first}
use Rattle.rulebook.specs.Units.{last_day}
use Rattle.rulebook.proofs.laws.CheckedLaws.{test-fails}
use Rattle.calendar.proofs.laws.DateLaws.{within-true, true-within, of_is_month}
use Rattle.calendar.proofs.laws.BusinessLaws.{is_nth_of, of_is_nth, nth-found, nth-is, nth-nothing}
use Rattle.calendar.specs.CalendarTable.{Ascending}
use Rattle.calendar.proofs.laws.CalendarLaws.{proper_ascending, ascending_proper, listed-entry, entry_listed}
use Rattle.calendar.specs.Calendar.{is_day, is_date, is_month, days_in_month, date_given, weekday_of, within, is_proper, is_listed, is_business_day, is_nth_after, nth_after}
use Rattle.calendar.specs.CalendarTable.{DayGiven, MonthGiven, DateGiven, Listed, BusinessDay, NthBusinessDay}

-- ---- What each test says

pub day-says : (day : ℤ) → (is_day day ≡ true) ↔ DayGiven day
unfolding is_day
day-says day = (
  λ e. let b = and-true (le_z (pos 0) day) _ e in record { from = parts-le (le_test (pos 0) day b.0); to = parts-le (le_test day (pos last_day) b.1) },
  λ g. rw (le_true (pos 0) day (le_parts g.from), le_true day (pos last_day) (le_parts g.to)),
)

pub month-says : (year month : ℤ) → (is_month (positive year) (positive month) ≡ true) ↔ MonthGiven year month
unfolding is_month
month-says year month = (given, test)
  where
    given : is_month (positive year) (positive month) ≡ true → MonthGiven year month
    given e =
        let m = of_is_month (positive year) (positive month) e in
        record {
          year-from = omega (int, parts year, m.year-from);
          year-to = omega (int, parts year, m.year-from, m.year-to);
          month-from = omega (int, parts month, m.month-from);
          month-to = omega (int, parts month, m.month-from, m.month-to);
        }

    test : MonthGiven year month → is_month (positive year) (positive month) ≡ true
    test g =
        let y = within-true 2000 2099 (positive year) (omega (int, parts year, g.year-from)) (omega (int, parts year, g.year-from, g.year-to)) in
        let m = within-true 1 12 (positive month) (omega (int, parts month, g.month-from)) (omega (int, parts month, g.month-from, g.month-to)) in
        rw (y, m)

pub date-says : (year month day : ℤ) → (is_date (date_given year month day) ≡ true) ↔ DateGiven year month day
unfolding is_date
date-says year month day = (given, test)
  where
    most : ℕ
    most = days_in_month (positive year) (positive month)

    given : is_date (date_given year month day) ≡ true → DateGiven year month day
    given e =
        let b = and-true (is_month (positive year) (positive month)) _ e in
        let d = true-within 1 most (positive day) b.1 in
        record { in_month = (month-says year month).0 b.0; from = omega (int, parts day, d.0); to = omega (int, parts day, d) }

    test : DateGiven year month day → is_date (date_given year month day) ≡ true
    test g =
        rw ((month-says year month).1 g.in_month) (within-true 1 most (positive day) (omega (int, parts day, g.from)) (omega (int, parts day, g.from, g.to)))

pub list_says : (holidays : List ℤ) → (is_proper holidays ≡ true) ↔ Ascending holidays
list_says holidays = (proper_ascending holidays, ascending_proper holidays)

pub listed-says : (holidays : List ℤ) (d : ℕ) → (is_listed holidays d ≡ true) ↔ Listed holidays d
listed-says holidays d = (listed-entry holidays d, λ s. entry_listed holidays d s.0 s.1 s.2)

not-true : (t : Bool) → not t ≡ true → t ≡ false
not-true true e = absurd (let z : ◌≡◌ {A = ℕ} 0 1 = cc in omega arith)
not-true false e = refl

pub business-says : (holidays : List ℤ) (d : ℕ) → (is_business_day holidays d ≡ true) ↔ BusinessDay holidays d
unfolding is_business_day weekday_of
business-says holidays d = (given, test)
  where
    shut : (is_listed holidays d ≡ false) ↔ (¬ Listed holidays d)
    shut = test-fails (is_listed holidays d) (listed-says holidays d)

    given : is_business_day holidays d ≡ true → BusinessDay holidays d
    given e =
        let b = and-true (within 2 6 (weekday_of d)) _ e in
        let w = true-within 2 6 (weekday_of d) b.0 in
        record { from = w.0; to = w.1; not_listed = shut.0 (not-true (is_listed holidays d) b.1) }

    test : BusinessDay holidays d → is_business_day holidays d ≡ true
    test g = rw (within-true 2 6 (weekday_of d) g.from g.to, shut.1 g.not_listed)

pub nth-says : (holidays : List ℤ) (n d e : ℕ) → (is_nth_after (is_business_day holidays) n d e ≡ true) ↔ NthBusinessDay holidays n d e
nth-says holidays n d e = (
  λ t. let v = of_is_nth (is_business_day holidays) n d e t in record { after = v.after; business = (business-says holidays e).0 v.passes; as_many = v.as_many },
  λ v. is_nth_of (is_business_day holidays) n d e (record { after = v.after; passes = (business-says holidays e).1 v.business; as_many = v.as_many }),
)

-- the n-th day that is found, and none
pub nth-told : (test : ℕ → Bool) (n d e : ℕ) → (nth_after test n d ≡ Some e) ↔ ((is_nth_after test n d e ≡ true) × (e ≤ last_day))
nth-told test n d e = (nth-is test n d e, λ r. nth-found test n d e (of_is_nth test n d e r.0) r.1)

pub nth-absent : (test : ℕ → Bool) (n d : ℕ) → (nth_after test n d ≡ None) ↔ ((e : ℕ) → e ≤ last_day → is_nth_after test n d e ≡ false)
unfolding nth_after
nth-absent test n d = (
  nth-nothing test n d,
  λ h. nothing-first (last_day + 1) (λ e. cond (is_nth_after test n d e) (Some e) None) (λ e l. rw (h e (omega arith))),
)
