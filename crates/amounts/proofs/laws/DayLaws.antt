-- Running sums and shares in their ranges, R and S read back, and sizes of what an account has at an interval. Assumes nothing.
use Rattle.std.specs.Prelude.{◌≡◌, refl, List, ℤ, pos, nat_abs, get_or, replicate, drop, ◌-◌, ℕ, zero, suc, ◌+◌, ◌*◌, ◌≤◌, ◌<◌, ◌+ℤ◌, Option, Some, None}
use Rattle.std.proofs.Common.{sym, ap, ◌∙◌, arith, subst, zero-add, get_or-drop}
use Rattle.std.proofs.lemmas.List.{get_or-replicate, length-replicate}
use Rattle.std.specs.Fn.{Called}
use Rattle.std.specs.Array.{IsFromFnResultFrom, IsFromFnResult}
use lib.IntN.{+ℤ_idr}
use denote.Param.Members.{Mut}
use Rattle.integer.specs.Below.{fold, tabulate}
use Rattle.integer.proofs.laws.BelowLaws.{fold-suc, sum_ℕ-le, get_d_tabulate, length-tabulate, tabulate-of}
use Rattle.integer.specs.Words.{filled}
use Rattle.integer.proofs.laws.WordsLaws.{get_d_past}
use Rattle.rulebook.specs.Units.{intervals, most_quantity}
use Rattle.rulebook.proofs.laws.SecondShareLaws.{share-by_cap}
use Rattle.rulebook.specs.Layout.{interval_of}
use Rattle.rulebook.specs.DayAmount.{reference_price_of, vesting_amount}
use Rattle.rulebook.proofs.laws.SizeLaws.{price-sized, share-amount_size}
use Rattle.rules.specs.LoadAndSpare.{LoadAndSpare}
use Rattle.amounts.specs.Cell.{cell_data, RangedCell}
use Rattle.amounts.specs.Interval.{residual_at}
use Rattle.amounts.specs.Total.{absorbed}
use Rattle.amounts.specs.Day.{SlotRanged, Then, residuals_of, uegq_in, sum_in, share_in, sum_before, sums_before, cell_at, cell_residual, residual_amount, slot_amount, total_to}

pub cell-residual_le : (c : List ℤ) → RangedCell c → (share : ℕ) → share ≤ most_quantity → nat_abs (cell_residual c share) ≤ 20000000000000
cell-residual_le c h share l = let x = h.sized in share-amount_size (cell_data c) x (reference_price_of (cell_data c)) (price-sized (cell_data c) x) share l

-- R and S of interval i, read back
pub residual-in : (n : ℕ) (x : List ℤ) (i : ℕ) (d : LoadAndSpare) → i < intervals → get_or (residuals_of n x) i d ≡ residual_at n (interval_of n x i)
unfolding residuals_of
residual-in n x i d h = get_d_tabulate intervals (λ i. residual_at n (interval_of n x i)) i d h

-- the elements of an array that is made by index, where each call leaves the closure as it was
made-at : {F B : Type 0} (g : Mut F (ℕ × Unit {0}) B) (f : F) (h : ℕ → B) (ys : List B) (d : B) (i n : ℕ)
    → ((j : ℕ) (y : B) (q : F) → j < i + n → Called g f (j, tt) y q → (q ≡ f) × (y ≡ h j)) → IsFromFnResultFrom g f ys i n → (k : ℕ) → k < n → get_or ys (i + k) d ≡ h (i + k)
made-at g f h ys d i zero each made k l = absurd (omega arith)
made-at g f h ys d i (suc n) each (q, y, at, call, rest) zero l =
    let e : i + 0 ≡ i = omega arith in
    rw e (at.1 d ∙ (each i y q (omega arith) call).1)
made-at {F = F} g f h ys d i (suc n) each (q, y, at, call, rest) (suc k) l =
    let e : i + suc k ≡ i + 1 + k = omega arith in
    let p : q ≡ f = (each i y q (omega arith) call).0 in
    rw e (made-at g f h ys d (i + 1) n (λ j z r m. each j z r (omega arith)) (subst (λ (r : F). IsFromFnResultFrom g r ys (i + 1) n) p rest) k (omega arith))

pub made-of : {F B : Type 0} (g : Mut F (ℕ × Unit {0}) B) (f : F) (h : ℕ → B) (ys : List B) (d : B) (n : ℕ)
    → ((j : ℕ) (y : B) (q : F) → j < n → Called g f (j, tt) y q → (q ≡ f) × (y ≡ h j)) → IsFromFnResult g f ys n → ys ≡ tabulate n h
made-of g f h ys d n each made =
    tabulate-of d ys n h made.long (λ k l. subst (λ (i : ℕ). get_or ys i d ≡ h i) (zero-add k) (made-at g f h ys d 0 n (λ j y q m. each j y q (omega arith)) made.each k l))

-- ---- Running sums

module _ (t : Then) where
  pub sum-zero : (i : ℕ) → sum_in t 0 i ≡ 0
  unfolding sum_in fold
  sum-zero i = refl

  -- with account a's UEGQ
  pub sum-suc : (a i : ℕ) → sum_in t (a + 1) i ≡ sum_in t a i + uegq_in t.accounts t.words a i
  unfolding sum_in
  sum-suc a i = fold-suc ◌+◌ 0 a (λ b. uegq_in t.accounts t.words b i)

  module _ (r : SlotRanged t.accounts t.words) (a i : ℕ) (h : i < intervals) where
    -- they have room
    pub sum-le : a ≤ t.accounts → sum_in t a i ≤ a * most_quantity
    unfolding sum_in
    sum-le l = sum_ℕ-le a most_quantity (λ b. uegq_in t.accounts t.words b i) (λ b k. ((r.each i h).cells b (omega arith)).sized.uegq)

    -- no share is above what a quantity can be
    pub share-le : a < t.accounts → share_in t a i ≤ most_quantity
    unfolding share_in
    share-le l =
        let q = residual_at t.accounts (interval_of t.accounts t.words i) in
        omega (arith, share-by_cap t.edition q.load q.spare (sum_in t a i) (uegq_in t.accounts t.words a i), ((r.each i h).cells a l).sized.uegq)

-- before the first account there are none
pub sum_none : (then : Option Then) (i : ℕ) → sum_before then 0 i ≡ 0
unfolding sum_before
sum_none (Some t) i = sum-zero t i
sum_none None i = refl

pub sums_none : (then : Option Then) → replicate intervals 0 ≡ sums_before then 0
unfolding sums_before
sums_none then = tabulate-of 0 (replicate intervals 0) intervals (sum_before then 0) (length-replicate {A = ℕ} intervals 0) (λ k l. get_or-replicate {A = ℕ} intervals k 0 0 l ∙ sym (sum_none then k))

pub sum_at : (then : Option Then) (a i : ℕ) → i < intervals → get_or (sums_before then a) i 0 ≡ sum_before then a i
unfolding sums_before
sum_at then a i h = get_d_tabulate intervals (sum_before then a) i 0 h

pub sum_settled : (then : Option Then) (t : Then) (a i : ℕ) → then ≡ Some t → sum_before then a i ≡ sum_in t a i
unfolding sum_before
sum_settled then t a i e = rw e

pub sum_unsettled : (then : Option Then) (a i : ℕ) → then ≡ None → sum_before then a i ≡ 0
unfolding sum_before
sum_unsettled then a i e = rw e

-- an element that a fill from the front has not come to
pub filled-rest : (i : ℕ) (f : ℕ → ℕ) (xs : List ℕ) → get_or (filled i f xs) i 0 ≡ get_or xs i 0
filled-rest i f xs =
    let e : i + (i - i) ≡ i = omega arith in
    get_d_past (tabulate i f) (drop i xs) i i 0 (length-tabulate i f) (omega arith) ∙ get_or-drop i xs (i - i) 0 ∙ ap (λ (k : ℕ). get_or xs k 0) e

-- ---- Amounts

module _ (n : ℕ) (today : List ℤ) (then : Option Then) (a : ℕ) where
  pub total-zero : record { thousandths = pos 0 } ≡ total_to n today then a 0
  unfolding total_to fold
  total-zero = refl

  pub total-suc : (k : ℕ) → total_to n today then a (k + 1) ≡ absorbed (total_to n today then a k) (slot_amount n today then a k)
  unfolding total_to
  total-suc k = rw (fold-suc ◌+ℤ◌ (pos 0) k (slot_amount n today then a))

module _ (n : ℕ) (today : List ℤ) (a i : ℕ) where
  -- where a residual is due, and where none is
  pub amount-settled : (then : Option Then) (t : Then) → then ≡ Some t
      → slot_amount n today then a i ≡ vesting_amount (cell_data (cell_at n today a i)) +ℤ cell_residual (cell_at t.accounts t.words a i) (share_in t a i)
  unfolding slot_amount residual_amount
  amount-settled then t e = rw e

  pub amount-unsettled : (then : Option Then) → then ≡ None → slot_amount n today then a i ≡ vesting_amount (cell_data (cell_at n today a i))
  unfolding slot_amount residual_amount
  amount-unsettled then e = rw e (+ℤ_idr (vesting_amount (cell_data (cell_at n today a i))))
