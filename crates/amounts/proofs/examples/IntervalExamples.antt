-- Document 02, P3: an interval of three accounts, word by word, with its report's figures, R and S. Computed. Assumes nothing.
use Rattle.std.specs.Prelude.{◌≡◌, refl, List, [], ◌∷◌, ◌++◌, ℕ, ℤ, pos}
use Rattle.integer.specs.Below.{fold}
use Rattle.rulebook.specs.DayAmount.{vested_quantity, hedge_total, report_figure, spare_generation, residual_load}
use Rattle.amounts.specs.Interval.{report_of, residual_at}

-- an account's 24 words: three tranches, one facility; all prices 9, MQ 6, flags 4, 1 and 1
abbrev account : ℕ → ℕ → ℕ → ℕ → ℕ → List ℤ
account bvq first second third uegq =
    pos 4 ∷ pos bvq ∷ pos 9 ∷ pos first ∷ pos 9 ∷ pos second ∷ pos 9 ∷ pos third ∷ pos 9
    ∷ pos 1 ∷ pos 9 ∷ pos 5 ∷ pos 0 ∷ pos 0 ∷ pos 0 ∷ pos 0 ∷ pos 0 ∷ pos 0
    ∷ pos 1 ∷ pos uegq ∷ pos 6 ∷ pos 9 ∷ pos 9 ∷ pos 0 ∷ []

-- load 12,000; the second account has no base contract
abbrev pub words : List ℤ
words = pos 12000 ∷ pos 1 ∷ pos 0 ∷ pos 0 ∷ account 100 1 20 300 7 ++ (account 0 4 0 0 80 ++ account 3000 50 0 7000 900)

pub record IntervalRead : Type 0 where
  pub report : report_of 3 words ≡ record { base = 3100; first = 3155; second = 3175; third = 10475 }
  pub residual : residual_at 3 words ≡ record { load = pos 1525; spare = 987 }

pub interval-read : IntervalRead
unfolding fold vested_quantity hedge_total report_figure spare_generation residual_load
interval-read = record { report = refl; residual = refl }
