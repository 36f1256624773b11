-- Document 01, "The book": the size, every word of a header and of an account by its index, the window and the limits, computed. Assumes nothing.
use Rattle.std.specs.Prelude.{◌≡◌, refl, true, false, [], ◌∷◌, ℕ, pos, replicate, get_or}
use Rattle.integer.specs.Below.{fold, tabulate}
use Rattle.integer.specs.Words.{word}
use Rattle.rulebook.specs.declared.Section.TheVariants.{Vesting, Meter, Residual, Ncc}
use Rattle.rulebook.specs.declared.Terms.{Terms}
use Rattle.rulebook.specs.Sections.{Figure, BVQ, BVP, TVQ, TVP, MEP, IEQ, UEGQ, MQ, RVP1, RVP2, NccLoad, figure_section}
use Rattle.rulebook.specs.Layout.{padding, is_padding, interval_table, account_table, figure_index, size, base, ring, interval_size, slot, interval_word, row_word, flag_word}
use Rattle.rulebook.specs.WellFormed.{is_dated}
use Rattle.rulebook.specs.Opening.{header}
use Rattle.rulebook.specs.Judging.{limits_of}
use Rattle.rulebook.proofs.examples.Examples.{one, two, three}

-- a figure's index in the book
abbrev at : Terms → ℕ → ℕ → ℕ → Figure → ℕ
at o a d i g = row_word o (figure_section g) a d i (figure_index g)

pub record Places : Type 0 where
  pub size_two : size two ≡ 5072
  pub size_three : size three ≡ 18328
  -- the interval's own words
  pub load : at two 0 9497 0 NccLoad ≡ 80
  pub load_flag : flag_word two Ncc 0 9497 0 ≡ 81
  pub interval_padding : tabulate 4 (λ q. is_padding (get_or interval_table q padding)) ≡ false ∷ false ∷ true ∷ true ∷ []
  -- account 1's, 108 to 131
  pub vesting_flag : flag_word two Vesting 1 9497 0 ≡ 108
  pub bvq : at two 1 9497 0 BVQ ≡ 109
  pub bvp : at two 1 9497 0 BVP ≡ 110
  pub tvq : tabulate 3 (λ t. at two 1 9497 0 (TVQ t)) ≡ 111 ∷ 113 ∷ 115 ∷ []
  pub tvp : tabulate 3 (λ t. at two 1 9497 0 (TVP t)) ≡ 112 ∷ 114 ∷ 116 ∷ []
  pub meter_flag : flag_word two Meter 1 9497 0 ≡ 117
  pub mep : tabulate 4 (λ f. at two 1 9497 0 (MEP f)) ≡ 118 ∷ 120 ∷ 122 ∷ 124 ∷ []
  pub ieq : tabulate 4 (λ f. at two 1 9497 0 (IEQ f)) ≡ 119 ∷ 121 ∷ 123 ∷ 125 ∷ []
  pub residual_flag : flag_word two Residual 1 9497 0 ≡ 126
  pub uegq : at two 1 9497 0 UEGQ ≡ 127
  pub mq : at two 1 9497 0 MQ ≡ 128
  pub rvp1 : at two 1 9497 0 RVP1 ≡ 129
  pub rvp2 : at two 1 9497 0 RVP2 ≡ 130
  pub account_padding : tabulate 24 (λ q. is_padding (get_or account_table q padding))
      ≡ false ∷ false ∷ false ∷ false ∷ false ∷ false ∷ false ∷ false ∷ false ∷ false ∷ false ∷ false ∷ false ∷ false ∷ false ∷ false ∷ false ∷ false ∷ false ∷ false ∷ false ∷ false ∷ false ∷ true ∷ []
  -- the first account, the next interval, the last word that a row has, the next day, and the day after it on the first slot again
  pub first_account : flag_word two Vesting 0 9497 0 ≡ 84
  pub one_account : flag_word one Vesting 0 9497 0 ≡ 76
  pub next_interval : flag_word two Vesting 0 9497 1 ≡ 136
  pub last_interval : at two 1 9498 47 RVP2 ≡ 5070
  pub next_day : flag_word two Vesting 0 9498 0 ≡ 2580
  pub day_after : flag_word two Vesting 0 9499 0 ≡ 84

pub places : Places
unfolding size base ring interval_size slot interval_word row_word tabulate
places = record {
  size_two = refl;
  size_three = refl;
  load = refl;
  load_flag = refl;
  interval_padding = refl;
  vesting_flag = refl;
  bvq = refl;
  bvp = refl;
  tvq = refl;
  tvp = refl;
  meter_flag = refl;
  mep = refl;
  ieq = refl;
  residual_flag = refl;
  uegq = refl;
  mq = refl;
  rvp1 = refl;
  rvp2 = refl;
  account_padding = refl;
  first_account = refl;
  one_account = refl;
  next_interval = refl;
  last_interval = refl;
  next_day = refl;
  day_after = refl;
}

-- F near the end, and X before it
abbrev late : Terms
late = record { accounts = 3; lag = 2; horizon = 3; first = 36523; change = 9500 }

-- a new book's header: 395, N, L, H, F, C, 0, X and zeros to word 63, then the first balance
pub record NewHeader : Type 0 where
  pub words : tabulate 65 (word (header three)) ≡ pos 395 ∷ pos 3 ∷ pos 2 ∷ pos 3 ∷ pos 9497 ∷ pos 9497 ∷ replicate 59 (pos 0)
  pub changing : tabulate 65 (word (header late)) ≡ pos 395 ∷ pos 3 ∷ pos 2 ∷ pos 3 ∷ pos 36523 ∷ pos 36523 ∷ pos 0 ∷ pos 9500 ∷ replicate 57 (pos 0)

pub new_header : NewHeader
unfolding tabulate
new_header = record { words = refl; changing = refl }

-- ---- The window, and which slots have a day of it

pub record Windows : Type 0 where
  -- C = F: days 9,497 to 9,499
  pub begun : tabulate 5 (is_dated three 9497) ≡ true ∷ true ∷ true ∷ false ∷ false ∷ []
  pub second : tabulate 5 (is_dated three 9498) ≡ true ∷ true ∷ true ∷ true ∷ false ∷ []
  pub full : tabulate 5 (is_dated three 9499) ≡ true ∷ true ∷ true ∷ true ∷ true ∷ []
  -- no day past 36,524
  pub ending : tabulate 5 (is_dated late 36523) ≡ true ∷ true ∷ false ∷ false ∷ false ∷ []
  pub finished : tabulate 5 (is_dated late 36525) ≡ true ∷ true ∷ false ∷ false ∷ false ∷ []
  -- what a file is judged by: accounts, first open day of vesting and meter rows, that of residual and NCC rows, last open day
  pub limits : limits_of three 9500 ≡ record { accounts = 3; current = 9500; earliest = 9498; last = 9502 }
  pub first_limits : limits_of three 9498 ≡ record { accounts = 3; current = 9498; earliest = 9497; last = 9500 }
  pub last_limits : limits_of three 36523 ≡ record { accounts = 3; current = 36523; earliest = 36521; last = 36524 }
  pub finished_limits : limits_of three 36525 ≡ record { accounts = 3; current = 36525; earliest = 36523; last = 36524 }

pub windows : Windows
unfolding tabulate is_dated fold slot ring
windows = record {
  begun = refl;
  second = refl;
  full = refl;
  ending = refl;
  finished = refl;
  limits = refl;
  first_limits = refl;
  last_limits = refl;
  finished_limits = refl;
}
