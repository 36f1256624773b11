-- What the calendar's calls return, as theorems: day and date lead back to each other, a holiday list is accepted where it ascends, and the business day that is found is the one asked for. Assumes nothing.
use Rattle.std.specs.Prelude.{◌≡◌, refl, Bool, true, false, ◌||◌, List, ℕ, ◌+◌, ◌*◌, ◌-◌, ◌%◌, ◌≤◌, ◌<◌, ltb, eqb, ℤ, pos, negsuc, length, Option, Some, None}
use Rattle.std.proofs.Common.{ap, ⊎_elim, arith, ltb-true, ltb-false, eqb-true, eq-eqb, le→leb, lt→ltb}
use Rattle.std.proofs.lemmas.Bool.{eqb-false}
use Rattle.std.specs.Int.Signed.{le_z, lt_z, le_z_yes, lt_z_yes}
use Rattle.integer.specs.Integer.{positive}
use Rattle.integer.specs.Words.{word}
use Rattle.integer.proofs.laws.IntegerLaws.{T-path}
use Rattle.integer.proofs.laws.BelowLaws.{either, all_of}
use Rattle.rulebook.specs.Units.{last_day}
use Rattle.rulebook.specs.Numbers.{accepted, no_such_date, bad_holidays, past_last_day, checked}
use Rattle.integer.proofs.laws.CountLaws.{any_at, any_some}
use Rattle.calendar.proofs.laws.DateLaws.{day_of-date_of, date_of-day_of, is_date-date_of, day_of-le, of_is_day, is_day-of, of_is_month}
use Rattle.calendar.specs.Steps.{entry_at}
use Rattle.calendar.proofs.laws.HolidayLaws.{entry-is_day, entries-ascend}
use Rattle.calendar.proofs.laws.BusinessLaws.{of_is_nth, nth-found, nth-none, nth-is, nth-nothing}
use Rattle.calendar.specs.CalendarTable.{Ascending}
use Rattle.calendar.specs.Calendar.{is_day, is_date, is_month, day_of, date_given, weekday_of, in_place, is_proper, is_entry, is_listed, is_business_day, days_after, is_nth_after, nth_after, statement_day, final_statement, due_after, due_day, date_accepted, day_accepted, day_refused, up_to_last_day, search_told, date_told, day_told, final_statement_told, residual_due_told}

-- ---- Day to date and back

-- the date of a day, given back, is that day
pub day-date_day : (day : ℤ) → is_day day ≡ true → day_told (pos (date_told day).year) (pos (date_told day).month) (pos (date_told day).day) ≡ day_accepted (positive day)
unfolding day_told date_told
day-date_day day e =
    let h = (of_is_day day e).to in
    rw (e, is_date-date_of (positive day) h) (ap day_accepted (day_of-date_of (positive day) h))

-- the day of a date, given back, is that date
pub date-day_date : (year month day : ℤ) → is_date (date_given year month day) ≡ true → date_told (pos (day_told year month day).day) ≡ date_accepted (date_given year month day)
unfolding day_told date_told
date-day_date year month day e =
    let h = is_day-of (day_of (date_given year month day)) (day_of-le (date_given year month day) e) in
    rw (e, h) (ap date_accepted (date_of-day_of (date_given year month day) e))

-- the weekdays follow each other
pub weekday-next : (d : ℕ) → weekday_of (d + 1) ≡ (weekday_of d + 1) % 7
unfolding weekday_of
weekday-next d = omega arith

-- ---- Holiday lists

pub proper_ascending : (holidays : List ℤ) → is_proper holidays ≡ true → Ascending holidays
proper_ascending holidays p =
    record {
      from = λ i l. rw (entry-is_day holidays p i l).unsigned (le_z_yes (le→leb 0 (entry_at holidays i) (omega arith)));
      to = λ i l. let d = entry-is_day holidays p i l in rw d.unsigned (le_z_yes (le→leb (entry_at holidays i) last_day d.to));
      later = λ i j h l. rw ((entry-is_day holidays p i (omega arith)).unsigned, (entry-is_day holidays p j l).unsigned) (lt_z_yes (lt→ltb (entry_at holidays i) (entry_at holidays j) (entries-ascend holidays p i j h l)));
    }

pub ascending_proper : (holidays : List ℤ) → Ascending holidays → is_proper holidays ≡ true
unfolding is_proper in_place is_day
ascending_proper holidays a = all_of (length holidays) (in_place holidays) each
  where
    first_or-later : (i : ℕ) → i < length holidays → (eqb i 0 || lt_z (word holidays (i - 1)) (word holidays i)) ≡ true
    first_or-later i l =
        ⊎_elim (λ e. rw e)
        (λ (e : eqb i 0 ≡ false). rw e (T-path (lt_z (word holidays (i - 1)) (word holidays i)) (a.later (i - 1) i (omega (arith, eqb-false i 0 e)) l).lt))
        (either (eqb i 0))

    each : (i : ℕ) → i < length holidays → in_place holidays i ≡ true
    each i l = rw (T-path (le_z (pos 0) (word holidays i)) (a.from i l).le, T-path (le_z (word holidays i) (pos last_day)) (a.to i l).le) (first_or-later i l)

entry-is : (z : ℤ) (d : ℕ) → is_entry z d ≡ true → z ≡ pos d
entry-is (pos n) d e = ap pos (eqb-true n d e)
entry-is (negsuc n) d e = absurd (let z : ◌≡◌ {A = ℕ} 0 1 = cc in omega arith)

-- a listed day is an entry of the list, and the converse
pub listed-entry : (holidays : List ℤ) (d : ℕ) → is_listed holidays d ≡ true → (i : ℕ) × (i < length holidays) × (word holidays i ≡ pos d)
unfolding is_listed
listed-entry holidays d e =
    let s = any_some (length holidays) (λ i. is_entry (word holidays i) d) e in
    (s.0, s.1, entry-is (word holidays s.0) d s.2)

pub entry_listed : (holidays : List ℤ) (d i : ℕ) → i < length holidays → word holidays i ≡ pos d → is_listed holidays d ≡ true
unfolding is_listed
entry_listed holidays d i l e = any_at (length holidays) (λ k. is_entry (word holidays k) d) i l (rw e (eq-eqb d d refl))

-- ---- The day that is found

searched-at : (given proper : Bool) (f : Option ℕ) (e : ℕ) → checked given (day_refused no_such_date) (checked proper (day_refused bad_holidays) (up_to_last_day f)) ≡ day_accepted e → f ≡ Some e
searched-at true true (Some x) e q = ap Some (ap (λ r. r.day) q)
searched-at true true None e q = absurd (let z : ◌≡◌ {A = ℕ} past_last_day accepted = ap (λ r. r.number) q in omega arith)
searched-at true false f e q = absurd (let z : ◌≡◌ {A = ℕ} bad_holidays accepted = ap (λ r. r.number) q in omega arith)
searched-at false b f e q = absurd (let z : ◌≡◌ {A = ℕ} no_such_date accepted = ap (λ r. r.number) q in omega arith)

searched-nothing : (given proper : Bool) (f : Option ℕ) → checked given (day_refused no_such_date) (checked proper (day_refused bad_holidays) (up_to_last_day f)) ≡ day_refused past_last_day → f ≡ None
searched-nothing true true (Some x) q = absurd (let z : ◌≡◌ {A = ℕ} accepted past_last_day = ap (λ r. r.number) q in omega arith)
searched-nothing true true None q = refl
searched-nothing true false f q = absurd (let z : ◌≡◌ {A = ℕ} bad_holidays past_last_day = ap (λ r. r.number) q in omega arith)
searched-nothing false b f q = absurd (let z : ◌≡◌ {A = ℕ} no_such_date past_last_day = ap (λ r. r.number) q in omega arith)

module _ (given : Bool) (holidays : List ℤ) (test : ℕ → Bool) (n d : ℕ) where
  -- the day that is told is the n-th
  told_is : (e : ℕ) → search_told given holidays (nth_after test n d) ≡ day_accepted e → (is_nth_after test n d e ≡ true) × (e ≤ last_day)
  unfolding search_told
  told_is e q = nth-is test n d e (searched-at given (is_proper holidays) (nth_after test n d) e q)

  -- where 14 is told there is none up to 31 December 2099
  told_none : search_told given holidays (nth_after test n d) ≡ day_refused past_last_day → (e : ℕ) → e ≤ last_day → is_nth_after test n d e ≡ false
  unfolding search_told
  told_none q = nth-nothing test n d (searched-nothing given (is_proper holidays) (nth_after test n d) q)

  -- where there is one it is told
  told_of : given ≡ true → is_proper holidays ≡ true → (e : ℕ) → is_nth_after test n d e ≡ true → e ≤ last_day → search_told given holidays (nth_after test n d) ≡ day_accepted e
  unfolding search_told
  told_of a b e t h = rw (a, b) (ap up_to_last_day (nth-found test n d e (of_is_nth test n d e t) h))

  -- where too few are left 14 is told
  told-past : given ≡ true → is_proper holidays ≡ true → days_after test d last_day < n → search_told given holidays (nth_after test n d) ≡ day_refused past_last_day
  unfolding search_told
  told-past a b h = rw (a, b) (ap up_to_last_day (nth-none test n d h))

module _ (day : ℤ) (holidays : List ℤ) where
  -- the final statement that is told is the tenth business day after the statement day
  pub final_statement-is : (e : ℕ) → final_statement_told day holidays ≡ day_accepted e → (is_nth_after (is_business_day holidays) 10 (statement_day (positive day)) e ≡ true) × (e ≤ last_day)
  unfolding final_statement_told final_statement
  final_statement-is = told_is (is_day day) holidays (is_business_day holidays) 10 (statement_day (positive day))

  -- where 14 is told there is none up to 31 December 2099
  pub final_statement-none : final_statement_told day holidays ≡ day_refused past_last_day → (e : ℕ) → e ≤ last_day → is_nth_after (is_business_day holidays) 10 (statement_day (positive day)) e ≡ false
  unfolding final_statement_told final_statement
  final_statement-none = told_none (is_day day) holidays (is_business_day holidays) 10 (statement_day (positive day))

  -- where there is one it is told, and where too few are left it is 14
  pub final_statement-of : is_day day ≡ true → is_proper holidays ≡ true → (e : ℕ) → is_nth_after (is_business_day holidays) 10 (statement_day (positive day)) e ≡ true → e ≤ last_day → final_statement_told day holidays ≡ day_accepted e
  unfolding final_statement_told final_statement
  final_statement-of = told_of (is_day day) holidays (is_business_day holidays) 10 (statement_day (positive day))

  pub final_statement-past : is_day day ≡ true → is_proper holidays ≡ true → days_after (is_business_day holidays) (statement_day (positive day)) last_day < 10 → final_statement_told day holidays ≡ day_refused past_last_day
  unfolding final_statement_told final_statement
  final_statement-past = told-past (is_day day) holidays (is_business_day holidays) 10 (statement_day (positive day))

-- ---- The day on which residual data fall due

-- two months later, in the next year from November on
pub due_after-month : (year month : ℕ) → is_month year month ≡ true → (12 * (due_after year month).year + (due_after year month).month ≡ 12 * year + month + 2) × (1 ≤ (due_after year month).month) × ((due_after year month).month ≤ 12) × ((due_after year month).day ≡ 10)
unfolding due_after
due_after-month year month e =
    let m = of_is_month year month e in
    ⊎_elim (λ (t : ltb 10 month ≡ true). rw t (omega (arith, m.month-to, ltb-true 10 month t)))
    (λ (t : ltb 10 month ≡ false). rw t (omega (arith, ltb-false 10 month t)))
    (either (ltb 10 month))

module _ (year month : ℤ) (holidays : List ℤ) where
  abbrev tenth_given : ℕ
  tenth_given = day_of (due_after (positive year) (positive month))

  abbrev is_month_given : Bool
  is_month_given = is_month (positive year) (positive month)

  -- the due day that is told is the first business day after that 10th
  pub residual_due-is : (e : ℕ) → residual_due_told year month holidays ≡ day_accepted e → (is_nth_after (is_business_day holidays) 1 tenth_given e ≡ true) × (e ≤ last_day)
  unfolding residual_due_told due_day
  residual_due-is = told_is is_month_given holidays (is_business_day holidays) 1 tenth_given

  pub residual_due-none : residual_due_told year month holidays ≡ day_refused past_last_day → (e : ℕ) → e ≤ last_day → is_nth_after (is_business_day holidays) 1 tenth_given e ≡ false
  unfolding residual_due_told due_day
  residual_due-none = told_none is_month_given holidays (is_business_day holidays) 1 tenth_given

  pub residual_due-of : is_month_given ≡ true → is_proper holidays ≡ true → (e : ℕ) → is_nth_after (is_business_day holidays) 1 tenth_given e ≡ true → e ≤ last_day → residual_due_told year month holidays ≡ day_accepted e
  unfolding residual_due_told due_day
  residual_due-of = told_of is_month_given holidays (is_business_day holidays) 1 tenth_given

  pub residual_due-past : is_month_given ≡ true → is_proper holidays ≡ true → days_after (is_business_day holidays) tenth_given last_day < 1 → residual_due_told year month holidays ≡ day_refused past_last_day
  unfolding residual_due_told due_day
  residual_due-past = told-past is_month_given holidays (is_business_day holidays) 1 tenth_given
