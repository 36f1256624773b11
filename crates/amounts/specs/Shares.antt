-- An account's shares by any R and S, of any sums before it, and what is posted of any shares. `Day` has those of the day that a close settles, of its
-- slot's own R, S and sums; the laws `SharesLaws` join the two. Assumes nothing.
use Rattle.std.specs.Prelude.{List, ℕ, ◌+◌, ◌*◌, ◌≤◌, ◌<◌, ℤ, pos, ◌+ℤ◌, get_or, replicate, Option, Some, None, option_map}
use Rattle.integer.specs.Below.{sum_ℤ, tabulate}
use Rattle.rulebook.specs.declared.Edition.{Edition}
use Rattle.rulebook.specs.Shares.{share_by}
use Rattle.rulebook.specs.Units.{intervals, most_quantity}
use Rattle.rulebook.specs.DayAmount.{vesting_amount}
use Rattle.rules.specs.LoadAndSpare.{LoadAndSpare}
use Rattle.amounts.specs.declared.slot.Slot.{Slot}
use Rattle.amounts.specs.declared.total.DayTotal.{DayTotal}
use Rattle.amounts.specs.declared.total.Posted.{Posted}
use Rattle.amounts.specs.Total.{posted_of}
use Rattle.amounts.specs.Cell.{cell_data}
use Rattle.amounts.specs.Day.{Then, cell_at, uegq_in, sums_before, cell_residual}

-- ---- Running sums

-- no running sum is above what a accounts can have
abbrev pub SumsRanged : ℕ → List ℕ → Type 0
SumsRanged a sums = (i : ℕ) → i < intervals → get_or sums i 0 ≤ a * most_quantity

-- with account a's UEGQ of a slot
unfoldable pub sums_with : ℕ → List ℤ → List ℕ → ℕ → List ℕ
sums_with n x sums a = tabulate intervals (λ i. get_or sums i 0 + uegq_in n x a i)

-- where a residual is due, else none
abbrev pub sums_if : Option Slot → List ℕ → ℕ → List ℕ
sums_if (Some s) sums a = sums_with s.accounts s.words.now sums a
sums_if None sums a = replicate intervals 0

-- ---- Shares

-- R and S of interval i
abbrev pub residual_in : List LoadAndSpare → ℕ → LoadAndSpare
residual_in rs i = get_or rs i (record { load = pos 0; spare = 0 })

-- account a's share at interval i, by edition, where the accounts before it have these sums
abbrev pub share_after : Edition → ℕ → List ℤ → List LoadAndSpare → List ℕ → ℕ → ℕ → ℕ
share_after e n x rs sums a i = share_by e (residual_in rs i).load (residual_in rs i).spare (get_or sums i 0) (uegq_in n x a i)

-- at each interval
unfoldable pub shares_of : Edition → ℕ → List ℤ → List LoadAndSpare → List ℕ → ℕ → List ℕ
shares_of e n x rs sums a = tabulate intervals (share_after e n x rs sums a)

-- where a residual is due, else none
abbrev pub shares_if : Option Slot → Edition → List LoadAndSpare → List ℕ → ℕ → List ℕ
shares_if (Some s) e rs sums a = shares_of e s.accounts s.words.now rs sums a
shares_if None e rs sums a = replicate intervals 0

-- no share is above what a quantity can be
abbrev pub SharesRanged : List ℕ → Type 0
SharesRanged shares = (i : ℕ) → i < intervals → get_or shares i 0 ≤ most_quantity

-- ---- An account's amount

-- a share's amount, of account a at interval i
abbrev pub residual_if : Option Slot → ℕ → ℕ → ℕ → ℤ
residual_if (Some s) share a i = cell_residual (cell_at s.accounts s.words.now a i) share
residual_if None share a i = pos 0

-- vesting of today's cell and, where due, that
unfoldable pub amount_of : ℕ → List ℤ → Option Slot → ℕ → ℕ → ℕ → ℤ
amount_of n today then share a i = vesting_amount (cell_data (cell_at n today a i)) +ℤ residual_if then share a i

-- the total of the intervals below k
unfoldable pub shares_total : ℕ → List ℤ → Option Slot → List ℕ → ℕ → ℕ → DayTotal
shares_total n today then shares a k = record { thousandths = sum_ℤ k (λ i. amount_of n today then (get_or shares i 0) a i) }

-- the posted amount, of the account's shares, and what it leaves
unfoldable pub shares_posted : ℕ → List ℤ → Option Slot → List ℕ → ℕ → Posted
shares_posted n today then shares a = posted_of (shares_total n today then shares a intervals)

-- ---- Of R and S, by edition

-- r's slot as the day that is settled
abbrev pub then_by : Edition → Option Slot → Option Then
then_by e then = option_map (λ s. record { accounts = s.accounts; words = s.words.now; edition = e }) then

-- account a's shares, after the accounts before it
abbrev pub shares_in : Edition → Option Slot → List LoadAndSpare → ℕ → List ℕ
shares_in e then rs a = shares_if then e rs (sums_before (then_by e then) a) a

-- what is posted of them
unfoldable pub posted_by : Edition → ℕ → List ℤ → Option Slot → List LoadAndSpare → ℕ → Posted
posted_by e n today then rs a = shares_posted n today then (shares_in e then rs a) a

-- each of them alone
abbrev pub cents_by : Edition → ℕ → List ℤ → Option Slot → List LoadAndSpare → ℕ → ℤ
cents_by e n today then rs a = (posted_by e n today then rs a).cents

abbrev pub difference_by : Edition → ℕ → List ℤ → Option Slot → List LoadAndSpare → ℕ → ℤ
difference_by e n today then rs a = (posted_by e n today then rs a).difference
