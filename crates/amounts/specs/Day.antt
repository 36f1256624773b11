-- A day's slot, as the code reads it interval by interval, and an account's amount over two slots. Assumes nothing.
use Rattle.std.specs.Prelude.{◌≡◌, List, ℕ, ◌<◌, ℤ, pos, ◌+ℤ◌, length, Option, Some, None}
use Rattle.integer.specs.Below.{sum_ℕ, sum_ℤ, tabulate}
use Rattle.rulebook.specs.declared.Edition.{Edition}
use Rattle.rulebook.specs.Shares.{share_by}
use Rattle.rulebook.specs.Units.{intervals}
use Rattle.rulebook.specs.DayAmount.{reference_price_of, vesting_amount, share_amount}
use Rattle.rulebook.specs.Layout.{slot_length, interval_of, cell_of}
use Rattle.rules.specs.LoadAndSpare.{LoadAndSpare}
use Rattle.amounts.specs.declared.total.DayTotal.{DayTotal}
use Rattle.amounts.specs.declared.total.Posted.{Posted}
use Rattle.amounts.specs.Total.{posted_of}
use Rattle.amounts.specs.Cell.{cell_data}
use Rattle.amounts.specs.Interval.{IntervalRanged, residual_at}

-- account a's cell at interval i
abbrev pub cell_at : ℕ → List ℤ → ℕ → ℕ → List ℤ
cell_at n x a i = cell_of (interval_of n x i) a

pub record SlotRanged (n : ℕ) (x : List ℤ) : Type 0 where
  pub whole : length x ≡ slot_length n
  pub each : (i : ℕ) → i < intervals → IntervalRanged n (interval_of n x i)

-- R and S of each interval
unfoldable pub residuals_of : ℕ → List ℤ → List LoadAndSpare
residuals_of n x = tabulate intervals (λ i. residual_at n (interval_of n x i))

-- ---- An account's shares

-- account a's UEGQ at interval i of a slot
abbrev pub uegq_in : ℕ → List ℤ → ℕ → ℕ → ℕ
uegq_in n x a i = (cell_data (cell_at n x a i)).uegq

-- the day that a close settles: how many accounts, r's slot and edition
pub record Then : Type 0 where
  pub accounts : ℕ
  pub words : List ℤ
  pub edition : Edition

-- the UEGQ of the accounts before a, together
unfoldable pub sum_in : Then → ℕ → ℕ → ℕ
sum_in t a i = sum_ℕ a (λ b. uegq_in t.accounts t.words b i)

-- account a's share at interval i, of R and S of the interval
unfoldable pub share_in : Then → ℕ → ℕ → ℕ
share_in t a i =
    let r = residual_at t.accounts (interval_of t.accounts t.words i) in
    share_by t.edition r.load r.spare (sum_in t a i) (uegq_in t.accounts t.words a i)

-- ---- Where no residual is due, there is no such day

abbrev pub HasAccount : ℕ → Option Then → Type 0
HasAccount a (Some t) = a < t.accounts
HasAccount a None = Unit {0}

-- the UEGQ of the accounts before a, at an interval and at all
unfoldable pub sum_before : Option Then → ℕ → ℕ → ℕ
sum_before (Some t) a i = sum_in t a i
sum_before None a i = 0

unfoldable pub sums_before : Option Then → ℕ → List ℕ
sums_before then a = tabulate intervals (sum_before then a)

-- ---- An account's amount

-- a cell's amount of its share, at its V
abbrev pub cell_residual : List ℤ → ℕ → ℤ
cell_residual c share = share_amount (cell_data c) (reference_price_of (cell_data c)) share

-- the residual amount of account a at interval i
unfoldable pub residual_amount : Option Then → ℕ → ℕ → ℤ
residual_amount (Some t) a i = cell_residual (cell_at t.accounts t.words a i) (share_in t a i)
residual_amount None a i = pos 0

-- what account a has at interval i: vesting of today's cell and, where due, the residual of then's
unfoldable pub slot_amount : ℕ → List ℤ → Option Then → ℕ → ℕ → ℤ
slot_amount n today then a i = vesting_amount (cell_data (cell_at n today a i)) +ℤ residual_amount then a i

-- the total of the intervals below k
unfoldable pub total_to : ℕ → List ℤ → Option Then → ℕ → ℕ → DayTotal
total_to n today then a k = record { thousandths = sum_ℤ k (slot_amount n today then a) }

-- the posted amount, and what it leaves
unfoldable pub slot_posted : ℕ → List ℤ → Option Then → ℕ → Posted
slot_posted n today then a = posted_of (total_to n today then a intervals)

-- each of them alone
abbrev pub slot_cents : ℕ → List ℤ → Option Then → ℕ → ℤ
slot_cents n today then a = (slot_posted n today then a).cents

abbrev pub slot_difference : ℕ → List ℤ → Option Then → ℕ → ℤ
slot_difference n today then a = (slot_posted n today then a).difference
