-- Laws of months and years: their lengths, and what lies before them. Assumes nothing.
use Rattle.std.specs.Prelude.{◌≡◌, refl, Bool, true, false, cond, ◌||◌, ℕ, zero, suc, ◌+◌, ◌*◌, ◌-◌, ◌/◌, ◌%◌, ◌≤◌, eqb}
use Rattle.std.proofs.Common.{sym, ◌∙◌, ⊎_elim, arith, eqb-true, lit≤}
use Rattle.std.proofs.lemmas.Bool.{eqb-false}
use Rattle.integer.specs.Below.{fold, sum_ℕ}
use Rattle.integer.proofs.laws.BelowLaws.{either}
use Rattle.integer.proofs.laws.CountLaws.{sum_from-suc, sum_from-mono}
use Rattle.calendar.specs.Calendar.{first_year, is_leap, days_in_year, days_in_month, days_before_year, days_before_month}

-- ---- Months

month-range : (february leap thirty : Bool) → (28 ≤ cond february (cond leap 29 28) (cond thirty 30 31)) × (cond february (cond leap 29 28) (cond thirty 30 31) ≤ 31)
month-range true true c = omega arith
month-range true false c = omega arith
month-range false b true = omega arith
month-range false b false = omega arith

pub days_in_month-range : (year month : ℕ) → (28 ≤ days_in_month year month) × (days_in_month year month ≤ 31)
unfolding days_in_month
days_in_month-range year month = month-range (eqb month 2) (is_leap year) (eqb month 4 || (eqb month 6 || (eqb month 9 || eqb month 11)))

-- the months make up the year
pub months_of_year : (year : ℕ) → sum_ℕ 12 (λ k. days_in_month year (1 + k)) ≡ days_in_year year
unfolding fold days_in_month days_in_year
months_of_year year = ⊎_elim (λ e. rw e) (λ e. rw e) (either (is_leap year))

-- the first of the next month comes a month's days later
pub days_before_month-suc : (year month : ℕ) → 1 ≤ month → days_before_month year (month + 1) ≡ days_before_month year month + days_in_month year month
unfolding days_before_month
days_before_month-suc year = sum_from-suc (days_in_month year) 1

-- ---- Years

leap_step : (k : ℕ) (leap : Bool) → eqb ((2000 + k) % 4) 0 ≡ leap → 365 * k + (k + 3) / 4 + cond leap 366 365 ≡ 365 * suc k + (suc k + 3) / 4
leap_step k true e = omega (arith, eqb-true ((2000 + k) % 4) 0 e)
leap_step k false e = omega (arith, eqb-false ((2000 + k) % 4) 0 e)

pub days_in_year-range : (year : ℕ) → (365 ≤ days_in_year year) × (days_in_year year ≤ 366)
unfolding days_in_year
days_in_year-range year = ⊎_elim (λ e. rw e (omega arith)) (λ e. rw e (omega arith)) (either (is_leap year))

-- every fourth year from 2000 on has one day more
pub years_closed : (k : ℕ) → sum_ℕ k (λ j. days_in_year (first_year + j)) ≡ 365 * k + (k + 3) / 4
unfolding fold days_in_year is_leap
years_closed zero = refl
years_closed (suc k) = rw (years_closed k) (leap_step k (eqb ((2000 + k) % 4) 0) refl)

pub days_before_year-closed : (year : ℕ) → days_before_year year ≡ 365 * (year - 2000) + (year - 2000 + 3) / 4
unfolding days_before_year
days_before_year-closed year = years_closed (year - 2000)

-- the first of the next year comes a year's days later
pub days_before_year-suc : (year : ℕ) → first_year ≤ year → days_before_year (year + 1) ≡ days_before_year year + days_in_year year
unfolding days_before_year
days_before_year-suc = sum_from-suc days_in_year first_year

-- a month of the year lies within the year
pub days_before_month-within : (year month : ℕ) → 1 ≤ month → month ≤ 12 → days_before_month year month + days_in_month year month ≤ days_in_year year
unfolding days_before_month
days_before_month-within year month l h =
    omega (arith, months_of_year year, sum_from-suc (days_in_month year) 1 month l, sum_from-mono (days_in_month year) 1 (month + 1) 13 (omega arith))

-- December ends the year
pub december : (year : ℕ) → days_before_month year 12 + days_in_month year 12 ≡ days_in_year year
unfolding days_before_month
december year = sym (sum_from-suc (days_in_month year) 1 12 (lit≤ tt)) ∙ months_of_year year

pub january : (year : ℕ) → days_before_month year 1 ≡ 0
unfolding days_before_month fold
january year = refl
