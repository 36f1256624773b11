-- Shares by R and S that are not the slot's own, and after sums that are not of its accounts. Computed. Assumes nothing.
use Rattle.std.specs.Prelude.{◌≡◌, refl, List, [], ◌∷◌, ℕ, ◌+◌, pos, get_or, None}
use Rattle.std.proofs.Common.{arith}
use Rattle.std.proofs.lemmas.List.{get_or-replicate}
use Rattle.integer.proofs.laws.BelowLaws.{get_d_tabulate}
use Rattle.rulebook.specs.declared.Edition.TheVariants.{First, Second}
use Rattle.rulebook.specs.Shares.{share_of, second_share_of, share_by}
use Rattle.rulebook.specs.Units.{intervals}
use Rattle.rules.specs.LoadAndSpare.{LoadAndSpare}
use Rattle.amounts.specs.Day.{uegq_in}
use Rattle.amounts.specs.Shares.{sums_with, sums_if, share_after, shares_if}
use Rattle.amounts.proofs.examples.IntervalExamples.{words}

-- R and S of the first interval; its own are 1,525 and 987
abbrev given : List LoadAndSpare
given = record { load = pos 1000; spare = 7000 } ∷ []

-- 5 kWh before account 2, which has 900; the accounts before it have 87
abbrev before : List ℕ
before = 5 ∷ []

pub record SharesRead : Type 0 where
  -- 900 × 1,000 / 7,000
  pub first : share_after First 3 words given before 2 0 ≡ 128
  -- 905 × 1,000 / 7,000 is 129, and 5 × 1,000 / 7,000 is 0
  pub second : share_after Second 3 words given before 2 0 ≡ 129
  pub sum : get_or (sums_with 3 words before 2) 0 0 ≡ 905
  -- where no residual is due there are none, whatever was given
  pub no_sum : get_or (sums_if None before 2) 0 0 ≡ 0
  pub no_share : get_or (shares_if None First given before 2) 0 0 ≡ 0

pub shares-read : SharesRead
unfolding share_of second_share_of share_by sums_with
shares-read = record {
  first = refl;
  second = refl;
  sum = get_d_tabulate intervals (λ i. get_or before i 0 + uegq_in 3 words 2 i) 0 0 (omega arith);
  no_sum = get_or-replicate {A = ℕ} intervals 0 0 0 (omega arith);
  no_share = get_or-replicate {A = ℕ} intervals 0 0 0 (omega arith);
}
