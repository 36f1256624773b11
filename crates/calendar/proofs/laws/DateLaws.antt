-- Laws of dates: the lengths of months and years, what lies before a date, and that day and date name each other. Assumes nothing.
use Rattle.std.specs.Prelude.{◌≡◌, refl, Bool, true, false, ℕ, zero, suc, ◌+◌, ◌-◌, ◌≤◌, ◌<◌, leb, ltb, ℤ, pos, negsuc}
use Rattle.std.proofs.Common.{sym, ap, ◌∙◌, ⊎_elim, arith, ltb-true, ltb-false, leb-true, le-leb, SFits, to_z, of_z}
use Rattle.std.proofs.Math.Dec.{leb-zero}
use Rattle.std.specs.Int.{w64}
use Rattle.std.proofs.lemmas.Int.{to_z-of_z}
use Rattle.integer.specs.Integer.{positive}
use Rattle.integer.specs.Below.{fold, turns}
use Rattle.integer.proofs.laws.BelowLaws.{and-true, lt_or_le}
use Rattle.rulebook.specs.Units.{last_day}
use Rattle.integer.proofs.laws.CountLaws.{sum_from-place}
use Rattle.calendar.proofs.laws.YearLaws.{days_in_month-range, days_in_year-range, days_before_month-suc, days_before_month-within, days_before_year-closed, days_before_year-suc, december, january}
use Rattle.calendar.specs.Calendar.{first_year, last_year, is_leap, days_in_year, days_in_month, Date, within, is_month, is_date, days_before_year, days_before_month, day_of, next_date, date_of, is_day}

-- ---- Dates

-- `is_date`, as orders
pub record IsDate (date : Date) : Type 0 where
  pub year-from : first_year ≤ date.year
  pub year-to : date.year ≤ last_year
  pub month-from : 1 ≤ date.month
  pub month-to : date.month ≤ 12
  pub day-from : 1 ≤ date.day
  pub day-to : date.day ≤ days_in_month date.year date.month

pub within-true : (low high n : ℕ) → low ≤ n → n ≤ high → within low high n ≡ true
within-true low high n l h = rw (le-leb low n l, le-leb n high h)

pub true-within : (low high n : ℕ) → within low high n ≡ true → (low ≤ n) × (n ≤ high)
true-within low high n e = let b = and-true (leb low n) (leb n high) e in (leb-true low n b.0, leb-true n high b.1)

-- `is_month`, as orders
pub record IsMonth (year month : ℕ) : Type 0 where
  pub year-from : first_year ≤ year
  pub year-to : year ≤ last_year
  pub month-from : 1 ≤ month
  pub month-to : month ≤ 12

pub of_is_month : (year month : ℕ) → is_month year month ≡ true → IsMonth year month
unfolding is_month
of_is_month year month e =
    let a = and-true (within first_year last_year year) (within 1 12 month) e in
    let y = true-within first_year last_year year a.0 in
    let m = true-within 1 12 month a.1 in
    record { year-from = y.0; year-to = y.1; month-from = m.0; month-to = m.1 }

pub is_date-of : (date : Date) → IsDate date → is_date date ≡ true
unfolding is_date is_month
is_date-of date v =
    rw (within-true first_year last_year date.year v.year-from v.year-to, within-true 1 12 date.month v.month-from v.month-to)
    (within-true 1 (days_in_month date.year date.month) date.day v.day-from v.day-to)

pub of_is_date : (date : Date) → is_date date ≡ true → IsDate date
unfolding is_date
of_is_date date e =
    let a = and-true (is_month date.year date.month) _ e in
    let m = of_is_month date.year date.month a.0 in
    let d = true-within 1 (days_in_month date.year date.month) date.day a.1 in
    record { year-from = m.year-from; year-to = m.year-to; month-from = m.month-from; month-to = m.month-to; day-from = d.0; day-to = d.1 }

-- a date lies in its year and its month
pub record Placed (date : Date) : Type 0 where
  pub in_month : days_before_month date.year date.month + (date.day - 1) < days_in_year date.year
  pub is : day_of date ≡ days_before_year date.year + (days_before_month date.year date.month + (date.day - 1))

pub placed : (date : Date) → IsDate date → Placed date
unfolding day_of
placed date v = record { in_month = omega (arith, days_before_month-within date.year date.month v.month-from v.month-to); is = omega arith }

-- ---- The next date

abbrev new_day : Date → Date
new_day date = record { year = date.year; month = date.month; day = date.day + 1 }

abbrev new_month : Date → Date
new_month date = record { year = date.year; month = date.month + 1; day = 1 }

abbrev new_year : Date → Date
new_year date = record { year = date.year + 1; month = 1; day = 1 }

-- which of the three it is
data Next (date : Date) : Type 0 where
  day-more : date.day < days_in_month date.year date.month → next_date date ≡ new_day date → Next date
  month-more : days_in_month date.year date.month ≤ date.day → date.month < 12 → next_date date ≡ new_month date → Next date
  year-more : days_in_month date.year date.month ≤ date.day → 12 ≤ date.month → next_date date ≡ new_year date → Next date

next_is : (date : Date) → Next date
unfolding next_date
next_is date = by_day (ltb date.day days) refl
  where
    days : ℕ
    days = days_in_month date.year date.month

    by_month : days ≤ date.day → ltb date.day days ≡ false → (t : Bool) → ltb date.month 12 ≡ t → Next date
    by_month h f true e = month-more h (ltb-true date.month 12 e) (rw (f, e))
    by_month h f false e = year-more h (ltb-false date.month 12 e) (rw (f, e))

    by_day : (t : Bool) → ltb date.day days ≡ t → Next date
    by_day true e = day-more (ltb-true date.day days e) (rw e)
    by_day false e = by_month (ltb-false date.day days e) e (ltb date.month 12) refl

-- the day number grows by one from each date to the next
day_of-next : (date : Date) → IsDate date → Next date → day_of (next_date date) ≡ day_of date + 1
unfolding day_of
day_of-next date v (day-more h e) = ap day_of e ∙ (omega (arith, v.day-from))
day_of-next date v (month-more h l e) = ap day_of e ∙ omega (arith, v.day-from, v.day-to, days_before_month-suc date.year date.month v.month-from)
day_of-next date v (year-more h l e) =
    let y = date.year in
    let m : date.month ≡ 12 = omega (arith, v.month-to) in
    let b : days_before_month y date.month ≡ days_before_month y 12 = ap (days_before_month y) m in
    let n : days_in_month y date.month ≡ days_in_month y 12 = ap (days_in_month y) m in
    ap day_of e ∙ omega (arith, v.day-from, v.day-to, days_before_year-suc y v.year-from, december y, january (y + 1))

pub day_of-next_date : (date : Date) → is_date date ≡ true → day_of (next_date date) ≡ day_of date + 1
day_of-next_date date e = day_of-next date (of_is_date date e) (next_is date)

-- and the next is a date but for 31 December 2099
is_date-next : (date : Date) → IsDate date → day_of date < last_day → Next date → IsDate (next_date date)
unfolding day_of
is_date-next date v below (day-more h e) =
    rw e (record { year-from = v.year-from; year-to = v.year-to; month-from = v.month-from; month-to = v.month-to; day-from = omega arith; day-to = omega arith })
is_date-next date v below (month-more h l e) =
    let r = days_in_month-range date.year (date.month + 1) in
    rw e (record { year-from = v.year-from; year-to = v.year-to; month-from = omega arith; month-to = omega arith; day-from = omega arith; day-to = omega arith })
is_date-next date v below (year-more h l e) =
    let y = date.year in
    let m : date.month ≡ 12 = omega (arith, v.month-to) in
    let b : days_before_month y date.month ≡ days_before_month y 12 = ap (days_before_month y) m in
    let n : days_in_month y date.month ≡ days_in_month y 12 = ap (days_in_month y) m in
    let r = days_in_month-range (y + 1) 1 in
    let t : y < last_year = ⊎_elim (λ k. k) (λ k. absurd (omega (arith, v.year-to, v.day-from, december y, days_before_year-closed y, days_in_year-range y))) (lt_or_le y last_year) in
    rw e (record { year-from = omega (arith, v.year-from); year-to = omega (arith, t); month-from = omega arith; month-to = omega arith; day-from = omega arith; day-to = omega arith })

-- ---- Day and date name each other

dated : (d : ℕ) → d ≤ last_day → IsDate (date_of d) × (day_of (date_of d) ≡ d)
unfolding date_of turns day_of days_before_year days_before_month fold days_in_month is_leap
dated zero h = (omega arith, refl)
dated (suc d) h =
    let r = dated d (omega arith) in
    let n = next_is (date_of d) in
    let e = day_of-next (date_of d) r.0 n in
    (is_date-next (date_of d) r.0 (omega (arith, r.1)) n, e ∙ omega (arith, r.1))

-- the date of every day is one, and its day number is that day
pub is_date-date_of : (d : ℕ) → d ≤ last_day → is_date (date_of d) ≡ true
is_date-date_of d h = is_date-of (date_of d) (dated d h).0

pub day_of-date_of : (d : ℕ) → d ≤ last_day → day_of (date_of d) ≡ d
day_of-date_of d h = (dated d h).1

-- no date lies past 31 December 2099
pub day_of-le : (date : Date) → is_date date ≡ true → day_of date ≤ last_day
day_of-le date e =
    let v = of_is_date date e in
    omega (arith, v.year-to, placed date v, days_before_year-suc date.year v.year-from, days_before_year-closed (date.year + 1))

-- two dates of one day number are one date
same_year : (s t : Date) → IsDate s → IsDate t → day_of s ≡ day_of t → s.year ≡ t.year
unfolding days_before_year
same_year s t v w e =
    sum_from-place days_in_year first_year (day_of s) s.year t.year v.year-from w.year-from (omega (arith, placed s v)) (omega (arith, placed s v)) (omega (arith, placed t w)) (omega (arith, placed t w))

same_month : (year m n a b : ℕ) → 1 ≤ m → 1 ≤ n → a < days_in_month year m → b < days_in_month year n → days_before_month year m + a ≡ days_before_month year n + b → m ≡ n
unfolding days_before_month
same_month year m n a b lm ln ha hb e = sum_from-place (days_in_month year) 1 (days_before_month year m + a) m n lm ln (omega arith) (omega arith) (omega arith) (omega arith)

same_date : (s t : Date) → IsDate s → IsDate t → day_of s ≡ day_of t → s ≡ t
same_date s t v w e = λ i. record { year = y i; month = m i; day = d i }
  where
    y : s.year ≡ t.year
    y = same_year s t v w e

    b : days_before_year s.year ≡ days_before_year t.year
    b = ap days_before_year y

    k : days_before_month s.year t.month ≡ days_before_month t.year t.month
    k = ap (λ x. days_before_month x t.month) y

    n : days_in_month s.year t.month ≡ days_in_month t.year t.month
    n = ap (λ x. days_in_month x t.month) y

    m : s.month ≡ t.month
    m = same_month s.year s.month t.month (s.day - 1) (t.day - 1) v.month-from w.month-from (omega (arith, v.day-from, v.day-to)) (omega (arith, n, w.day-from, w.day-to)) (omega (arith, b, k, placed s v, placed t w))

    d : s.day ≡ t.day
    d = let g : days_before_month s.year s.month ≡ days_before_month s.year t.month = ap (days_before_month s.year) m in omega (arith, b, k, placed s v, placed t w, v.day-from, w.day-from)

pub date_of-day_of : (date : Date) → is_date date ≡ true → date_of (day_of date) ≡ date
date_of-day_of date e =
    let r = dated (day_of date) (day_of-le date e) in
    same_date (date_of (day_of date)) date r.0 (of_is_date date e) r.1

-- the date so many days into a month of a year
pub date_of-in_month : (year month rest : ℕ) → first_year ≤ year → year ≤ last_year → 1 ≤ month → month ≤ 12 → rest < days_in_month year month → date_of (days_before_year year + (days_before_month year month + rest)) ≡ record { year = year; month = month; day = rest + 1 }
unfolding day_of
date_of-in_month year month rest a b c d e =
    let date : Date = record { year = year; month = month; day = rest + 1 } in
    let v : IsDate date = record { year-from = a; year-to = b; month-from = c; month-to = d; day-from = omega arith; day-to = omega arith } in
    let g : days_before_year year + (days_before_month year month + rest) ≡ day_of date = omega arith in
    ap date_of g ∙ date_of-day_of date (is_date-of date v)

-- ---- The numbers given

-- what is read of a signed number is the number
pub given {ℓ} : {A : Type ℓ} (f : ℤ → A) {z : ℤ} → SFits w64 z → f (to_z w64 (of_z w64 z)) ≡ f z
given f {z} fits = ap f (to_z-of_z w64 z fits)

pub day-given : {z : ℤ} {t : Bool} → SFits w64 z → is_day (to_z w64 (of_z w64 z)) ≡ t → is_day z ≡ t
day-given fits e = sym (given is_day fits) ∙ e

pub day-read : {z : ℤ} {d : ℕ} → SFits w64 z → d ≡ positive (to_z w64 (of_z w64 z)) → d ≡ positive z
day-read fits e = e ∙ given positive fits

-- a day is a number from 0 to 36,524
pub record IsDay (z : ℤ) : Type 0 where
  pub unsigned : z ≡ pos (positive z)
  pub to : positive z ≤ last_day

pub of_is_day : (z : ℤ) → is_day z ≡ true → IsDay z
unfolding is_day
of_is_day (pos n) e = record { unsigned = refl; to = leb-true n last_day (and-true (leb 0 n) (leb n last_day) e).1 }
of_is_day (negsuc n) e = absurd (let z : ◌≡◌ {A = ℕ} 0 1 = cc in omega arith)

pub is_day-of : (n : ℕ) → n ≤ last_day → is_day (pos n) ≡ true
unfolding is_day
is_day-of n h = rw (leb-zero n) (le-leb n last_day h)
