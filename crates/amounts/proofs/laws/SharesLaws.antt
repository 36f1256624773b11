-- Sums, shares and amounts by any R and S in their ranges; those of the day that a close settles are these, of its slot's own R, S and sums. Assumes nothing.
use Rattle.std.specs.Prelude.{◌≡◌, ◌++◌, drop, refl, List, ℤ, pos, get_or, replicate, ℕ, ◌+◌, ◌<◌, ◌+ℤ◌, Option, Some, None}
use Rattle.std.proofs.Common.{sym, ap, ◌∙◌, arith}
use Rattle.std.proofs.lemmas.List.{get_or-replicate, length-replicate}
use Rattle.std.specs.Option.{ForSome}
use lib.IntN.{+ℤ_idr}
use Rattle.integer.specs.Below.{fold, sum_ℤ, tabulate}
use Rattle.integer.specs.Words.{filled}
use Rattle.integer.proofs.laws.BelowLaws.{fold-suc, sum_ℤ-cong, get_d_tabulate, tabulate-of}
use Rattle.rulebook.specs.declared.Edition.{Edition}
use Rattle.rulebook.specs.Units.{intervals}
use Rattle.rulebook.proofs.laws.SecondShareLaws.{share-by_cap}
use Rattle.rulebook.proofs.laws.ListLaws.{tabulate-cong}
use Rattle.rulebook.specs.DayAmount.{vesting_amount}
use Rattle.rules.specs.LoadAndSpare.{LoadAndSpare}
use Rattle.amounts.specs.declared.slot.Slot.{Slot}
use Rattle.amounts.specs.declared.total.Posted.{Posted}
use Rattle.amounts.specs.Cell.{cell_data}
use Rattle.amounts.specs.Total.{absorbed, posted_of}
use Rattle.amounts.specs.Day.{Then, residuals_of, uegq_in, sum_in, share_in, sum_before, sums_before, cell_at, cell_residual, residual_amount, slot_amount, total_to, slot_posted, slot_cents, slot_difference}
use Rattle.amounts.specs.Shares.{SumsRanged, SharesRanged, sums_with, sums_if, residual_in, share_after, shares_of, amount_of, shares_total, shares_posted, then_by, shares_in, posted_by, cents_by, difference_by}
use Rattle.amounts.proofs.laws.DayLaws.{residual-in, sum-suc, sum_at}

-- ---- Ranges

module _ (s : Slot) (sums : List ℕ) (a : ℕ) (l : a < s.accounts) (r : SumsRanged a sums) where
  -- the sums with account a's UEGQ have room
  pub sums-ranged : SumsRanged (a + 1) (sums_with s.accounts s.words.now sums a)
  unfolding sums_with
  sums-ranged i h = omega (arith, get_d_tabulate intervals (λ i. get_or sums i 0 + uegq_in s.accounts s.words.now a i) i 0 h, r i h, ((s.ranged.each i h).cells a l).sized.uegq)

module _ (e : Edition) (s : Slot) (rs : List LoadAndSpare) (sums : List ℕ) (a : ℕ) (l : a < s.accounts) where
  -- no share is above what a quantity can be
  pub shares-ranged : SharesRanged (shares_of e s.accounts s.words.now rs sums a)
  unfolding shares_of
  shares-ranged i h = omega (
    arith,
    get_d_tabulate intervals (share_after e s.accounts s.words.now rs sums a) i 0 h,
    share-by_cap e (residual_in rs i).load (residual_in rs i).spare (get_or sums i 0) (uegq_in s.accounts s.words.now a i),
    ((s.ranged.each i h).cells a l).sized.uegq,
  )

-- ---- Amounts

module _ (n : ℕ) (today : List ℤ) (share a i : ℕ) where
  -- where a residual is due, and where none is
  pub amount-due : (then : Option Slot) (s : Slot) → then ≡ Some s
      → amount_of n today then share a i ≡ vesting_amount (cell_data (cell_at n today a i)) +ℤ cell_residual (cell_at s.accounts s.words.now a i) share
  unfolding amount_of
  amount-due then s e = rw e

  pub amount-none : (then : Option Slot) → then ≡ None → amount_of n today then share a i ≡ vesting_amount (cell_data (cell_at n today a i))
  unfolding amount_of
  amount-none then e = rw e (+ℤ_idr (vesting_amount (cell_data (cell_at n today a i))))

module _ (n : ℕ) (today : List ℤ) (then : Option Slot) (shares : List ℕ) (a : ℕ) where
  pub shares_total-zero : record { thousandths = pos 0 } ≡ shares_total n today then shares a 0
  unfolding shares_total fold
  shares_total-zero = refl

  pub shares_total-suc : (k : ℕ) → shares_total n today then shares a (k + 1) ≡ absorbed (shares_total n today then shares a k) (amount_of n today then (get_or shares k 0) a k)
  unfolding shares_total
  shares_total-suc k = rw (fold-suc ◌+ℤ◌ (pos 0) k (λ i. amount_of n today then (get_or shares i 0) a i))

-- ---- The day that is settled

-- where no residual is due there are no sums
pub no_sums : (a : ℕ) → replicate intervals 0 ≡ sums_before None a
unfolding sums_before sum_before
no_sums a = tabulate-of 0 (replicate intervals 0) intervals (sum_before None a) (length-replicate {A = ℕ} intervals 0) (λ k l. get_or-replicate {A = ℕ} intervals k 0 0 l)

module _ (e : Edition) where
  -- the sums of the accounts before a, with a's, are those before the next
  pub sums-settled : (then : Option Slot) (a : ℕ) → sums_if then (sums_before (then_by e then) a) a ≡ sums_before (then_by e then) (a + 1)
  unfolding sums_with sums_before sum_before
  sums-settled (Some s) a =
      let t : Then = record { accounts = s.accounts; words = s.words.now; edition = e } in
      tabulate-cong intervals (λ i. get_or (tabulate intervals (sum_in t a)) i 0 + uegq_in s.accounts s.words.now a i) (sum_in t (a + 1))
      (λ i h. ap (λ (z : ℕ). z + uegq_in s.accounts s.words.now a i) (get_d_tabulate intervals (sum_in t a) i 0 h) ∙ sym (sum-suc t a i))
  sums-settled None a = no_sums (a + 1)

  module _ (s : Slot) (a : ℕ) where
    abbrev settled : Then
    settled = record { accounts = s.accounts; words = s.words.now; edition = e }

    -- of R and S of the slot, account a's share after the accounts before it is that of the settled day
    pub share-settled : (i : ℕ) → i < intervals → share_after e s.accounts s.words.now (residuals_of s.accounts s.words.now) (sums_before (Some settled) a) a i ≡ share_in settled a i
    unfolding share_in sum_before
    share-settled i h = rw (residual-in s.accounts s.words.now i (record { load = pos 0; spare = 0 }) h, sum_at (Some settled) a i h)

    pub shares-settled : (i : ℕ) → i < intervals → get_or (shares_in e (Some s) (residuals_of s.accounts s.words.now) a) i 0 ≡ share_in settled a i
    unfolding shares_of
    shares-settled i h =
        get_d_tabulate intervals (share_after e s.accounts s.words.now (residuals_of s.accounts s.words.now) (sums_before (Some settled) a) a) i 0 h ∙ share-settled i h

  module _ (n : ℕ) (today : List ℤ) (a : ℕ) where
    -- and so is what is posted of the shares
    pub posted-settled : (then : Option Slot) (rs : List LoadAndSpare) → ForSome then (λ s. rs ≡ residuals_of s.accounts s.words.now)
        → posted_by e n today then rs a ≡ slot_posted n today (then_by e then) a
    unfolding posted_by shares_posted shares_total slot_posted total_to amount_of slot_amount residual_amount
    posted-settled then rs r = ap (λ (z : ℤ). posted_of (record { thousandths = z }))
        (sum_ℤ-cong intervals (λ i. amount_of n today then (get_or (shares_in e then rs a) i 0) a i) (slot_amount n today (then_by e then) a) (amounts then r))
      where
        amounts : (then : Option Slot) → ForSome then (λ s. rs ≡ residuals_of s.accounts s.words.now) → (i : ℕ) → i < intervals
            → amount_of n today then (get_or (shares_in e then rs a) i 0) a i ≡ slot_amount n today (then_by e then) a i
        amounts (Some s) r i h = rw (r s refl, shares-settled s a i h)
        amounts None r i h = refl

  -- of each account, and together
  module _ (n : ℕ) (today : List ℤ) (then : Option Slot) (rs : List LoadAndSpare) (r : ForSome then (λ s. rs ≡ residuals_of s.accounts s.words.now)) where
    pub cents-settled : (k : ℕ) (xs : List ℤ) → filled k (cents_by e n today then rs) xs ≡ filled k (slot_cents n today (then_by e then)) xs
    cents-settled k xs = ap (λ (l : List ℤ). l ++ drop k xs)
        (tabulate-cong k (cents_by e n today then rs) (slot_cents n today (then_by e then)) (λ a l. ap (λ (p : Posted). p.cents) (posted-settled n today a then rs r)))

    pub difference-settled : (k : ℕ) → sum_ℤ k (difference_by e n today then rs) ≡ sum_ℤ k (slot_difference n today (then_by e then))
    difference-settled k = sum_ℤ-cong k (difference_by e n today then rs) (slot_difference n today (then_by e then)) (λ a l. ap (λ (p : Posted). p.difference) (posted-settled n today a then rs r))
