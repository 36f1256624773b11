-- An interval of a slot, as the code reads it, in rounds over its accounts. Assumes nothing.
use Rattle.std.specs.Prelude.{◌≡◌, true, List, ℕ, ◌<◌, ℤ, length}
use Rattle.integer.specs.Below.{sum_ℕ}
use Rattle.integer.specs.Words.{word}
use Rattle.rulebook.specs.declared.Kind.TheVariants.{Quantity, Load}
use Rattle.rulebook.specs.Units.{in_range, as_quantity}
use Rattle.rulebook.specs.Sections.{NccLoad, load_by}
use Rattle.rulebook.specs.DayAmount.{AccountData, report_figure, spare_generation, residual_load}
use Rattle.rulebook.specs.Layout.{interval_length, account_words, cell_of, figure_at}
use Rattle.rules.specs.LoadAndSpare.{LoadAndSpare}
use Rattle.amounts.specs.declared.interval.HedgeReport.{HedgeReport}
use Rattle.amounts.specs.Cell.{cell_data, RangedCell}

-- ---- An interval of n accounts: its own words, then the cells

pub record IntervalRanged (n : ℕ) (x : List ℤ) : Type 0 where
  pub whole : length x ≡ interval_length n
  pub load : in_range Load (word x (figure_at NccLoad)) ≡ true
  pub cells : (a : ℕ) → a < n → RangedCell (cell_of x a)

-- its NCC load, and the accounts' data
abbrev pub load_in : List ℤ → ℕ
load_in x = load_by (λ g. word x (figure_at g))

abbrev pub data_in : List ℤ → ℕ → AccountData
data_in x b = cell_data (cell_of x b)

-- R and S
abbrev pub residual_at : ℕ → List ℤ → LoadAndSpare
residual_at n x = record { load = residual_load (load_in x) n (data_in x); spare = spare_generation n (data_in x) }

-- the figures of the holders' report
abbrev pub report_of : ℕ → List ℤ → HedgeReport
report_of n x = record {
  base = report_figure n (data_in x) 0;
  first = report_figure n (data_in x) 1;
  second = report_figure n (data_in x) 2;
  third = report_figure n (data_in x) 3;
}

-- a word of the cells at which every account has a quantity, and all these together
pub record QuantityWord (n : ℕ) (x : List ℤ) (at : ℕ) : Type 0 where
  pub whole : length x ≡ interval_length n
  pub within : at < account_words
  pub ranged : (b : ℕ) → b < n → in_range Quantity (word (cell_of x b) at) ≡ true

abbrev pub quantities_at : ℕ → List ℤ → ℕ → ℕ
quantities_at n x at = sum_ℕ n (λ b. as_quantity (word (cell_of x b) at))
