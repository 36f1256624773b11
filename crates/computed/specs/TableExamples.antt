-- Document 01, "Numbers returned, with examples": the files of its table and further ones, read byte by byte. Computed from the definitions. Assumes nothing.
use Rattle.std.specs.Prelude.{◌≡◌, refl, List, [], ◌∷◌, ◌++◌, ℕ}
use Rattle.integer.specs.Integer.{twos_complement}
use Rattle.integer.specs.Below.{fold, turns}
use Rattle.rulebook.specs.File.{num, value_at, row_end, row_pos, section_end}
use Rattle.rulebook.specs.Judging.{field_in, value, key, given, rest, row_after, judged_row, judged_section, limits_of, judged}
use Rattle.rulebook.specs.Numbers.{of_verdict, numbered}
use Rattle.rulebook.proofs.examples.Examples.{two, three, zeros}

-- the file's number and position, with C the next day to close
abbrev Returns : ℕ → List ℕ → ℕ → ℕ → Type 0
Returns C file n p = of_verdict (judged (limits_of two C) file) ≡ numbered n p

-- the same of N = 3, L = 2, H = 3, C = 9,500
abbrev ReturnsThree : List ℕ → ℕ → ℕ → Type 0
ReturnsThree file n p = of_verdict (judged (limits_of three 9500) file) ≡ numbered n p

-- a vesting row of account 0, day 9,497, no tranches, all zero; an NCC and a residual row of that day
abbrev pub vesting_row : List ℕ
vesting_row = 0 ∷ 0x19 ∷ 0x25 ∷ 0 ∷ zeros 384

abbrev pub ncc_row : List ℕ
ncc_row = 0x19 ∷ 0x25 ∷ zeros 192

abbrev pub residual_row : List ℕ
residual_row = 0 ∷ 0x19 ∷ 0x25 ∷ zeros 768

pub record Table : Type 0 where
  pub seven_zeros : Returns 9497 (zeros 7) 4 6
  pub eight_zeros : Returns 9497 (zeros 8) 0 0
  pub nine_zeros : Returns 9497 (zeros 9) 8 8
  pub third_account : Returns 9497 (1 ∷ 0 ∷ 2 ∷ []) 5 2
  pub after_horizon : Returns 9497 (1 ∷ 0 ∷ 0 ∷ 0x1A ∷ 0x25 ∷ []) 6 3
  pub given_twice : Returns 9497 (2 ∷ 0 ∷ vesting_row ++ vesting_row) 7 391
  -- the day before C: closed to vesting rows, open to NCC and residual rows
  pub vesting_late : Returns 9498 (1 ∷ 0 ∷ vesting_row ++ zeros 6) 6 3
  pub meter_late : Returns 9498 (0 ∷ 0 ∷ 1 ∷ 0 ∷ 0 ∷ 0x19 ∷ 0x25 ∷ []) 6 5
  pub ncc_late : Returns 9498 (zeros 6 ++ (1 ∷ 0 ∷ ncc_row)) 0 0
  pub residual_late : Returns 9498 (zeros 4 ++ (1 ∷ 0 ∷ residual_row ++ zeros 2)) 0 0
  -- two days before C, L = 1
  pub ncc_too_late : Returns 9499 (zeros 6 ++ (1 ∷ 0 ∷ 0x19 ∷ 0x25 ∷ [])) 6 8
  pub residual_too_late : Returns 9499 (zeros 4 ++ (1 ∷ 0 ∷ 0 ∷ 0x19 ∷ 0x25 ∷ [])) 6 7
  -- a finished book: C = 36,525, the day itself
  pub finished : Returns 36525 (1 ∷ 0 ∷ 0 ∷ 0xAD ∷ 0x8E ∷ []) 6 3

-- further files: counts at the ends of their ranges, and the order of checks
pub record Refusals : Type 0 where
  pub empty : Returns 9497 [] 4 0
  pub three_tranches : Returns 9497 (1 ∷ 0 ∷ 0 ∷ 0x19 ∷ 0x25 ∷ 3 ∷ []) 4 6
  pub four_tranches : Returns 9497 (1 ∷ 0 ∷ 0 ∷ 0x19 ∷ 0x25 ∷ 4 ∷ []) 5 5
  pub no_facility : Returns 9497 (0 ∷ 0 ∷ 1 ∷ 0 ∷ 0 ∷ 0x19 ∷ 0x25 ∷ 0 ∷ []) 5 7
  pub one_facility : Returns 9497 (0 ∷ 0 ∷ 1 ∷ 0 ∷ 0 ∷ 0x19 ∷ 0x25 ∷ 1 ∷ []) 4 8
  pub four_facilities : Returns 9497 (0 ∷ 0 ∷ 1 ∷ 0 ∷ 0 ∷ 0x19 ∷ 0x25 ∷ 4 ∷ []) 4 8
  pub five_facilities : Returns 9497 (0 ∷ 0 ∷ 1 ∷ 0 ∷ 0 ∷ 0x19 ∷ 0x25 ∷ 5 ∷ []) 5 7
  pub day_before : Returns 9497 (1 ∷ 0 ∷ 0 ∷ 0x18 ∷ 0x25 ∷ []) 6 3
  -- an account out of range comes before a day that is cut, a value out of range before a cut later in its row
  pub account_first : Returns 9497 (1 ∷ 0 ∷ 3 ∷ 0x19 ∷ []) 5 2
  pub value_first : Returns 9497 (1 ∷ 0 ∷ 0 ∷ 0x19 ∷ 0x25 ∷ 0 ∷ 255 ∷ 255 ∷ 255 ∷ 255 ∷ 0 ∷ []) 5 6
  -- 5 at the value's own byte: a BVP of 1,000,001 in the first interval and in the last, an IEQ of 10,000,001
  pub second_value : Returns 9497 (1 ∷ 0 ∷ 0 ∷ 0x19 ∷ 0x25 ∷ 0 ∷ zeros 4 ++ (0x41 ∷ 0x42 ∷ 0x0F ∷ 0 ∷ [])) 5 10
  pub last_value : Returns 9497 (1 ∷ 0 ∷ 0 ∷ 0x19 ∷ 0x25 ∷ 0 ∷ zeros 380 ++ (0x41 ∷ 0x42 ∷ 0x0F ∷ 0 ∷ [])) 5 386
  pub meter_value : Returns 9497 (0 ∷ 0 ∷ 1 ∷ 0 ∷ 0 ∷ 0x19 ∷ 0x25 ∷ 1 ∷ zeros 4 ++ (0x81 ∷ 0x96 ∷ 0x98 ∷ 0 ∷ [])) 5 12
  -- a row repeated comes before its count
  pub repeat_first : Returns 9497 (2 ∷ 0 ∷ vesting_row ++ (0 ∷ 0x19 ∷ 0x25 ∷ 4 ∷ [])) 7 391
  pub value_cut : Returns 9497 (1 ∷ 0 ∷ 0 ∷ 0x19 ∷ 0x25 ∷ 0 ∷ 1 ∷ 0 ∷ 0 ∷ 0 ∷ 0 ∷ []) 4 10

-- more accounts, days and rows
abbrev vesting_of : ℕ → List ℕ
vesting_of a = a ∷ 0x1D ∷ 0x25 ∷ 0 ∷ zeros 384

pub record ThreeAccounts : Type 0 where
  -- accounts 0 to 2 on one day, 9,501
  pub same_day : ReturnsThree (3 ∷ 0 ∷ vesting_of 0 ++ (vesting_of 1 ++ (vesting_of 2 ++ zeros 6))) 0 0
  pub no_fourth : ReturnsThree (1 ∷ 0 ∷ 3 ∷ []) 5 2
  -- vesting days are 9,500 to 9,502, residual and NCC days from 9,498 on
  pub before : ReturnsThree (1 ∷ 0 ∷ 0 ∷ 0x1B ∷ 0x25 ∷ []) 6 3
  pub first : ReturnsThree (1 ∷ 0 ∷ 0 ∷ 0x1C ∷ 0x25 ∷ []) 4 5
  pub last : ReturnsThree (1 ∷ 0 ∷ 0 ∷ 0x1E ∷ 0x25 ∷ []) 4 5
  pub after : ReturnsThree (1 ∷ 0 ∷ 0 ∷ 0x1F ∷ 0x25 ∷ []) 6 3
  pub residual_before : ReturnsThree (zeros 4 ++ (1 ∷ 0 ∷ 0 ∷ 0x19 ∷ 0x25 ∷ [])) 6 7
  pub residual_first : ReturnsThree (zeros 4 ++ (1 ∷ 0 ∷ 0 ∷ 0x1A ∷ 0x25 ∷ [])) 4 9
  pub ncc_before : ReturnsThree (zeros 6 ++ (1 ∷ 0 ∷ 0x19 ∷ 0x25 ∷ [])) 6 8
  pub ncc_first : ReturnsThree (zeros 6 ++ (1 ∷ 0 ∷ 0x1A ∷ 0x25 ∷ [])) 4 10
  -- 256 rows: a count has two bytes, and the first row's day is 0
  pub many_rows : ReturnsThree (0 ∷ 1 ∷ zeros 6) 6 3

pub refusals : Refusals
unfolding judged judged_section judged_row row_after rest given key field_in value fold num row_end row_pos section_end turns value_at twos_complement
refusals = record {
  empty = refl;
  three_tranches = refl;
  four_tranches = refl;
  no_facility = refl;
  one_facility = refl;
  four_facilities = refl;
  five_facilities = refl;
  day_before = refl;
  account_first = refl;
  value_first = refl;
  second_value = refl;
  last_value = refl;
  meter_value = refl;
  repeat_first = refl;
  value_cut = refl;
}

pub table : Table
unfolding judged judged_section judged_row row_after rest given key field_in value fold num row_end row_pos section_end turns value_at twos_complement
table = record {
  seven_zeros = refl;
  eight_zeros = refl;
  nine_zeros = refl;
  third_account = refl;
  after_horizon = refl;
  given_twice = refl;
  vesting_late = refl;
  meter_late = refl;
  ncc_late = refl;
  residual_late = refl;
  ncc_too_late = refl;
  residual_too_late = refl;
  finished = refl;
}

pub three-accounts : ThreeAccounts
unfolding judged judged_section judged_row row_after rest given key field_in value fold num row_end row_pos section_end turns value_at twos_complement
three-accounts = record {
  same_day = refl;
  no_fourth = refl;
  before = refl;
  first = refl;
  last = refl;
  after = refl;
  residual_before = refl;
  residual_first = refl;
  ncc_before = refl;
  ncc_first = refl;
  many_rows = refl;
}
