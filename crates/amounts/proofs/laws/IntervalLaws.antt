-- The words of an interval that the rounds over its accounts read, and the sizes of R. Assumes nothing.
use Rattle.std.specs.Prelude.{◌≡◌, List, [], ℕ, ◌+◌, ◌*◌, ◌-◌, ◌≤◌, ◌<◌, ℤ, nat_abs, pos, length, get_or, take, drop}
use Rattle.std.proofs.Common.{arith, sym, ap, ◌∙◌}
use Rattle.std.specs.Simd.{first_chunks}
use Rattle.integer.proofs.laws.ChunkLaws.{chunk-word as chunks}
use Rattle.integer.proofs.laws.IntegerLaws.{parts-eq}
use Rattle.integer.specs.Words.{word}
use Rattle.integer.proofs.laws.WordsLaws.{get_d_part}
use Rattle.rulebook.specs.Units.{most_quantity, most_load}
use Rattle.rulebook.proofs.laws.UnitsLaws.{load-range}
use Rattle.rulebook.specs.Shares.{most_accounts, least_residual}
use Rattle.rulebook.specs.Sections.{BVQ, TVQ, UEGQ}
use Rattle.rulebook.specs.DayAmount.{tenders, report_figure, residual_load}
use Rattle.rulebook.specs.Layout.{account_words, cell_place, account_place, interval_length, cell_of, figure_at}
use Rattle.rulebook.specs.Bounds.{Sized}
use Rattle.rulebook.proofs.laws.SizeLaws.{report-size, residual-load_size}
use Rattle.amounts.specs.Interval.{IntervalRanged, QuantityWord, load_in, data_in}

-- a word of a cell is one of the interval
pub interval-word : (x : List ℤ) (b at : ℕ) → at < account_words → word (cell_of x b) at ≡ word x (account_place b at)
interval-word x b at l = get_d_part x (cell_place b) account_words at (pos 0) l

module _ (n : ℕ) (x : List ℤ) (h : IntervalRanged n x) where
  pub data_sized : (b : ℕ) → b < n → Sized (data_in x b)
  data_sized b l = (h.cells b l).sized

  -- the words that the rounds read
  pub bvq-word : QuantityWord n x (figure_at BVQ)
  bvq-word = record { whole = h.whole; within = omega arith; ranged = λ b l. (h.cells b l).bvq }

  pub tvq-word : (t : ℕ) → t < tenders → QuantityWord n x (figure_at (TVQ 0) + 2 * t)
  tvq-word t k = record { whole = h.whole; within = omega arith; ranged = λ b l. (h.cells b l).tvq t k }

  pub uegq-word : QuantityWord n x (figure_at UEGQ)
  uegq-word = record { whole = h.whole; within = omega arith; ranged = λ b l. (h.cells b l).uegq }

  -- the report's figure leaves room for the rounds that follow
  pub report-le : n ≤ most_accounts → (m : ℕ) → m ≤ tenders → report_figure n (data_in x) m ≤ (1 + m) * (most_accounts * most_quantity)
  report-le k = report-size n (data_in x) data_sized k

  pub load-le : load_in x ≤ most_load
  load-le = (load-range (word x 0) h.load).most

  pub load_is : word x 0 ≡ pos (load_in x)
  load_is = let l = (load-range (word x 0) h.load).not_negative in parts-eq (word x 0) (pos (load_in x)) (omega arith)

  -- R is within what a share takes
  pub residual-le : n ≤ most_accounts → nat_abs (residual_load (load_in x) n (data_in x)) ≤ least_residual
  residual-le k = (residual-load_size (load_in x) n (data_in x) data_sized k load-le).0

-- word `at` of account b's chunk, where the words after the interval's own are read in chunks
pub chunk-word : (n k : ℕ) (x : List ℤ) (b at : ℕ) → length x ≡ interval_length n → b < n → b < k → at < account_words
    → word (get_or (first_chunks account_words k (take (length x - 4) (drop 4 x))) b []) at ≡ word (cell_of x b) at
chunk-word n k x b at e h l m =
    let i : 4 + (b * account_words + at) ≡ account_place b at = omega arith in
    chunks account_words k 4 (length x - 4) x b at l m (omega arith) ∙ ap (word x) i ∙ sym (interval-word x b at m)
