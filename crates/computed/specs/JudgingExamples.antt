-- Further files of the book with N = 3, L = 2, H = 3, F = 9,497: the ends of windows, and keys. Computed from the definitions. Assumes nothing.
use Rattle.std.specs.Prelude.{◌≡◌, refl, List, [], ◌∷◌, ◌++◌, ℕ}
use Rattle.integer.specs.Integer.{twos_complement}
use Rattle.integer.specs.Below.{fold, turns}
use Rattle.rulebook.specs.File.{num, value_at, row_end, row_pos, section_end}
use Rattle.rulebook.specs.Judging.{field_in, value, key, given, rest, row_after, judged_row, judged_section, limits_of, judged}
use Rattle.rulebook.specs.Numbers.{numbered, of_verdict}
use Rattle.rulebook.proofs.examples.Examples.{three, zeros}

-- the file's number and position, with C the next day to close
abbrev Returns : ℕ → List ℕ → ℕ → ℕ → Type 0
Returns C file n p = of_verdict (judged (limits_of three C) file) ≡ numbered n p

-- files that end after the first row's day
abbrev vesting_day : ℕ → ℕ → List ℕ
vesting_day low high = 1 ∷ 0 ∷ 0 ∷ low ∷ high ∷ []

abbrev meter_day : ℕ → ℕ → List ℕ
meter_day low high = zeros 2 ++ vesting_day low high

abbrev residual_day : ℕ → ℕ → List ℕ
residual_day low high = zeros 4 ++ vesting_day low high

abbrev ncc_day : ℕ → ℕ → List ℕ
ncc_day low high = zeros 6 ++ (1 ∷ 0 ∷ low ∷ high ∷ [])

-- an open day's refusal is of the next field, which is cut
pub record FileWindows : Type 0 where
  -- C = 9,500: meter rows from C to C + 2, residual and NCC rows to C + 2
  pub meter_before : Returns 9500 (meter_day 0x1B 0x25) 6 5
  pub meter_from : Returns 9500 (meter_day 0x1C 0x25) 4 7
  pub meter_to : Returns 9500 (meter_day 0x1E 0x25) 4 7
  pub meter_after : Returns 9500 (meter_day 0x1F 0x25) 6 5
  pub residual_to : Returns 9500 (residual_day 0x1E 0x25) 4 9
  pub residual_after : Returns 9500 (residual_day 0x1F 0x25) 6 7
  pub ncc_to : Returns 9500 (ncc_day 0x1E 0x25) 4 10
  pub ncc_after : Returns 9500 (ncc_day 0x1F 0x25) 6 8
  -- C = 9,498: C − 2 is before F
  pub residual_first : Returns 9498 (residual_day 0x19 0x25) 4 9
  pub residual_before_first : Returns 9498 (residual_day 0x18 0x25) 6 7
  pub ncc_first : Returns 9498 (ncc_day 0x19 0x25) 4 10
  pub ncc_before_first : Returns 9498 (ncc_day 0x18 0x25) 6 8
  -- C = 36,523: C + 2 is past 36,524
  pub vesting_last : Returns 36523 (vesting_day 0xAC 0x8E) 4 5
  pub vesting_past_last : Returns 36523 (vesting_day 0xAD 0x8E) 6 3
  -- C = 36,525, a finished book: residual and NCC rows of its last two days are open
  pub residual_finished : Returns 36525 (residual_day 0xAC 0x8E) 4 9
  pub ncc_finished : Returns 36525 (ncc_day 0xAB 0x8E) 4 10
  pub residual_too_late : Returns 36525 (residual_day 0xAA 0x8E) 6 7
  pub ncc_too_late : Returns 36525 (ncc_day 0xAA 0x8E) 6 8

pub file-windows : FileWindows
unfolding judged judged_section judged_row row_after rest given key field_in value fold num row_end row_pos section_end turns value_at twos_complement
file-windows = record {
  meter_before = refl;
  meter_from = refl;
  meter_to = refl;
  meter_after = refl;
  residual_to = refl;
  residual_after = refl;
  ncc_to = refl;
  ncc_after = refl;
  residual_first = refl;
  residual_before_first = refl;
  ncc_first = refl;
  ncc_before_first = refl;
  vesting_last = refl;
  vesting_past_last = refl;
  residual_finished = refl;
  ncc_finished = refl;
  residual_too_late = refl;
  ncc_too_late = refl;
}

-- a vesting row of an account, day 9,472 + low, no tranches, all zero; a meter row of one facility, an NCC row
abbrev vesting_row : ℕ → ℕ → List ℕ
vesting_row account low = account ∷ low ∷ 0x25 ∷ 0 ∷ zeros 384

abbrev meter_row : ℕ → ℕ → List ℕ
meter_row account low = account ∷ low ∷ 0x25 ∷ 1 ∷ zeros 384

abbrev ncc_row : ℕ → List ℕ
ncc_row low = low ∷ 0x25 ∷ zeros 192

pub record Keys : Type 0 where
  -- one account on two days, the later first; two NCC days
  pub two_days : Returns 9500 (2 ∷ 0 ∷ vesting_row 0 0x1D ++ (vesting_row 0 0x1C ++ zeros 6)) 0 0
  pub two_ncc_days : Returns 9500 (zeros 6 ++ (2 ∷ 0 ∷ ncc_row 0x1D ++ ncc_row 0x1C)) 0 0
  -- repeated after another account's row; an NCC day repeated
  pub third_row : Returns 9500 (3 ∷ 0 ∷ vesting_row 2 0x1C ++ (vesting_row 0 0x1C ++ (2 ∷ 0x1C ∷ 0x25 ∷ []))) 7 779
  pub ncc_again : Returns 9500 (zeros 6 ++ (2 ∷ 0 ∷ ncc_row 0x1C ++ (0x1C ∷ 0x25 ∷ []))) 7 202
  -- a key is of its section: one account and day in sections 1 and 2; in 2 and 3, and a day of account 0 in 1 and 4, cut after the second key
  pub vesting_and_meter : Returns 9500 (1 ∷ 0 ∷ vesting_row 1 0x1C ++ (1 ∷ 0 ∷ meter_row 1 0x1C ++ zeros 4)) 0 0
  pub meter_and_residual : Returns 9500 (0 ∷ 0 ∷ 1 ∷ 0 ∷ meter_row 1 0x1C ++ (1 ∷ 0 ∷ 1 ∷ 0x1C ∷ 0x25 ∷ [])) 4 397
  pub vesting_and_ncc : Returns 9500 (1 ∷ 0 ∷ vesting_row 0 0x1C ++ (zeros 4 ++ (1 ∷ 0 ∷ 0x1C ∷ 0x25 ∷ []))) 4 398
  -- the last account
  pub last_account : Returns 9500 (1 ∷ 0 ∷ 2 ∷ []) 4 3
  -- a count of 257 rows, one of them there
  pub one_of_many : Returns 9500 (zeros 6 ++ (1 ∷ 1 ∷ ncc_row 0x1C)) 4 202

pub keys : Keys
unfolding judged judged_section judged_row row_after rest given key field_in value fold num row_end row_pos section_end turns value_at twos_complement
keys = record {
  two_days = refl;
  two_ncc_days = refl;
  third_row = refl;
  ncc_again = refl;
  vesting_and_meter = refl;
  meter_and_residual = refl;
  vesting_and_ncc = refl;
  last_account = refl;
  one_of_many = refl;
}
