-- Document 02, P1: profiles at and beside each limit, in figures. Computed. Assumes nothing.
use Rattle.std.specs.Prelude.{◌≡◌, refl, true, false, cond, List, [], ◌∷◌, ◌++◌, ℕ, ◌%◌, eqb, ℤ, pos, Ok, Err}
use Rattle.integer.specs.Integer.{minus}
use Rattle.integer.specs.Below.{fold, tabulate}
use Rattle.rulebook.specs.declared.RuleError.TheVariants.{OutsideRange, TotalImpossible}
use Rattle.rulebook.specs.Profile.{keeps_limits, total_possible}
use Rattle.rulebook.specs.Numbers.{profile_returned}
use Rattle.rulebook.specs.Calls.{all_in_range, profile_input, profile_told, profile_call}

-- the list, T, D; the number, 1 or 0
abbrev Answers : List ℤ → ℤ → ℤ → ℕ → ℕ → Type 0
Answers profile t d number keeps = profile_call profile t d ≡ record { number = number; keeps = keeps }

-- n words, of which those at even indices are a, the others b
abbrev twos : ℕ → ℤ → ℤ → List ℤ
twos n a b = tabulate n (λ i. cond (eqb (i % 2) 0) a b)

-- two pairs of intervals, then all 40 and 60
abbrev begin : ℤ → ℤ → ℤ → ℤ → List ℤ
begin a b c d = a ∷ b ∷ c ∷ d ∷ twos 44 (pos 40) (pos 60)

-- all 40 and 60, then two pairs
abbrev end : ℤ → ℤ → ℤ → ℤ → List ℤ
end a b c d = twos 44 (pos 40) (pos 60) ++ (a ∷ b ∷ c ∷ d ∷ [])

pub record ProfilesTold : Type 0 where
  -- what each answer returns
  pub kept : profile_returned (Ok true) ≡ record { number = 0; keeps = 1 }
  pub not_kept : profile_returned (Ok false) ≡ record { number = 0; keeps = 0 }
  pub none_could : profile_returned (Err TotalImpossible) ≡ record { number = 15; keeps = 0 }
  pub refused : profile_returned (Err OutsideRange) ≡ record { number = 1; keeps = 0 }
  -- D = 100: a pair has 80 to 125 kWh, the day 1,920 to 3,000
  pub floors : Answers (twos 48 (pos 80) (pos 0)) (pos 1920) (pos 100) 0 1
  pub caps : Answers (twos 48 (pos 0) (pos 125)) (pos 3000) (pos 100) 0 1
  pub below_floors : Answers (twos 48 (pos 40) (pos 60)) (pos 1919) (pos 100) 15 0
  pub above_caps : Answers (twos 48 (pos 40) (pos 60)) (pos 3001) (pos 100) 15 0
  -- one pair at, and one kWh beside, each limit, first and last; the next pair makes up for it
  pub first_at_floor : Answers (begin (pos 40) (pos 40) (pos 60) (pos 60)) (pos 2400) (pos 100) 0 1
  pub first_below : Answers (begin (pos 40) (pos 39) (pos 60) (pos 61)) (pos 2400) (pos 100) 0 0
  pub first_at_cap : Answers (begin (pos 65) (pos 60) (pos 40) (pos 40)) (pos 2405) (pos 100) 0 1
  pub first_above : Answers (begin (pos 65) (pos 61) (pos 40) (pos 40)) (pos 2406) (pos 100) 0 0
  pub last_below : Answers (end (pos 60) (pos 61) (pos 40) (pos 39)) (pos 2400) (pos 100) 0 0
  pub last_above : Answers (end (pos 40) (pos 40) (pos 65) (pos 61)) (pos 2406) (pos 100) 0 0
  -- pairs begin at indices 0, 2, ..: 0, 100, 100, 0 keeps the limits; 100, 0, 0, 100 does, though nothing is in the middle; 50, 100, 0, 50 does not
  pub middles_full : Answers (begin (pos 0) (pos 100) (pos 100) (pos 0)) (pos 2400) (pos 100) 0 1
  pub middles_empty : Answers (begin (pos 100) (pos 0) (pos 0) (pos 100)) (pos 2400) (pos 100) 0 1
  pub middles_alone : Answers (begin (pos 50) (pos 100) (pos 0) (pos 50)) (pos 2400) (pos 100) 0 0
  -- all pairs right, the total one below T, and one above
  pub total_short : Answers (twos 48 (pos 40) (pos 60)) (pos 2401) (pos 100) 0 0
  pub total_over : Answers (twos 48 (pos 40) (pos 60)) (pos 2399) (pos 100) 0 0
  -- D = 3: a pair has 3 kWh, since 2.4 and 3.75 are the limits; so T is 72, not 58 to 90
  pub threes : Answers (twos 48 (pos 1) (pos 2)) (pos 72) (pos 3) 0 1
  pub threes_below : Answers (twos 48 (pos 1) (pos 2)) (pos 71) (pos 3) 15 0
  pub threes_above : Answers (twos 48 (pos 1) (pos 2)) (pos 73) (pos 3) 15 0
  pub twos_of_three : Answers ((pos 1 ∷ pos 1 ∷ pos 2 ∷ pos 2 ∷ []) ++ twos 44 (pos 1) (pos 2)) (pos 72) (pos 3) 0 0
  -- D = 4: a pair has 4 or 5 kWh, since 3.2 and 5 are the limits; so T is 96 at least, not 77
  pub fours : Answers (twos 48 (pos 2) (pos 2)) (pos 96) (pos 4) 0 1
  pub fours_below : Answers (twos 48 (pos 2) (pos 2)) (pos 95) (pos 4) 15 0
  pub three_of_four : Answers ((pos 1 ∷ pos 2 ∷ pos 2 ∷ pos 3 ∷ []) ++ twos 44 (pos 2) (pos 2)) (pos 96) (pos 4) 0 0
  -- nothing contracted
  pub nothing : Answers (twos 48 (pos 0) (pos 0)) (pos 0) (pos 0) 0 1
  pub not_nothing : Answers (twos 48 (pos 0) (pos 0)) (pos 1) (pos 0) 15 0
  -- the ends of the ranges: D to 10,000,000, a quantity to 10,000,000, T to 480,000,000
  pub largest : Answers (twos 48 (pos 10000000) (pos 2500000)) (pos 300000000) (pos 10000000) 0 1
  pub largest_total : Answers (twos 48 (pos 10000000) (pos 10000000)) (pos 480000000) (pos 10000000) 15 0
  pub contracted_above : Answers (twos 48 (pos 40) (pos 60)) (pos 2400) (pos 10000001) 1 0
  pub contracted_below : Answers (twos 48 (pos 0) (pos 0)) (pos 0) (minus 1) 1 0
  pub total_above : Answers (twos 48 (pos 40) (pos 60)) (pos 480000001) (pos 100) 1 0
  pub total_below : Answers (twos 48 (pos 0) (pos 0)) (minus 1) (pos 0) 1 0
  pub quantity_above : Answers (begin (pos 10000001) (pos 0) (pos 0) (pos 0)) (pos 2400) (pos 100) 1 0
  pub quantity_below : Answers (end (pos 0) (pos 0) (pos 101) (minus 1)) (pos 2400) (pos 100) 1 0
  -- 47 or 49 intervals, or none
  pub one_short : Answers (twos 47 (pos 100) (pos 0)) (pos 2400) (pos 100) 1 0
  pub one_long : Answers (twos 49 (pos 0) (pos 100)) (pos 2400) (pos 100) 1 0
  pub empty : Answers [] (pos 0) (pos 0) 1 0
  -- 1 comes before 15, and 15 whatever the quantities are
  pub range_first : Answers (begin (pos 10000001) (pos 0) (pos 0) (pos 0)) (pos 1919) (pos 100) 1 0
  pub short_first : Answers (twos 47 (pos 40) (pos 60)) (pos 1919) (pos 100) 1 0
  pub any_quantities : Answers (twos 48 (pos 10000000) (pos 0)) (pos 1919) (pos 100) 15 0

pub profiles-told : ProfilesTold
unfolding all_in_range profile_input profile_told profile_call keeps_limits total_possible fold tabulate
profiles-told = record {
  kept = refl;
  not_kept = refl;
  none_could = refl;
  refused = refl;
  floors = refl;
  caps = refl;
  below_floors = refl;
  above_caps = refl;
  first_at_floor = refl;
  first_below = refl;
  first_at_cap = refl;
  first_above = refl;
  last_below = refl;
  last_above = refl;
  middles_full = refl;
  middles_empty = refl;
  middles_alone = refl;
  total_short = refl;
  total_over = refl;
  threes = refl;
  threes_below = refl;
  threes_above = refl;
  twos_of_three = refl;
  fours = refl;
  fours_below = refl;
  three_of_four = refl;
  nothing = refl;
  not_nothing = refl;
  largest = refl;
  largest_total = refl;
  contracted_above = refl;
  contracted_below = refl;
  total_above = refl;
  total_below = refl;
  quantity_above = refl;
  quantity_below = refl;
  one_short = refl;
  one_long = refl;
  empty = refl;
  range_first = refl;
  short_first = refl;
  any_quantities = refl;
}
