-- Data in range give amounts in range: V, R, shares, each product, each partial sum, the running total over intervals, the posted amount.
-- Every bound is far below 2 ^ 63. Assumes nothing.
use Rattle.std.specs.Prelude.{Bool, true, false, cond, T, ℤ, nat_abs, ◌+ℤ◌, ◌-ℤ◌, ◌*ℤ◌}
use Prim.Native.Nat.{ℕ, ◌+◌, ◌*◌, ◌≤◌, ◌<◌}
use Rattle.std.proofs.Common.{mul-le-mul}
use native.Mathlib.Omega.{arith}
use Rattle.std.proofs.Math.IntN.{pos}
use Rattle.integer.proofs.laws.IntegerLaws.{abs-add, abs-sub, abs-mul_le, parts, sub_parts}
use Rattle.integer.specs.Below.{sum_ℕ, sum_ℤ}
use Rattle.integer.proofs.laws.BelowLaws.{sum_ℕ-le, abs-sum_ℤ}
use Rattle.integer.proofs.laws.NearestLaws.{nearest-abs}
use Rattle.rulebook.specs.declared.Terms.{Terms}
use Rattle.rulebook.specs.declared.Edition.{Edition}
use Rattle.rulebook.specs.Units.{most_quantity, most_load, most_price, nearest, positive}
use Rattle.rulebook.specs.ReferencePrice.{weight}
use Rattle.rulebook.specs.Tranches.{tranche1, tranche2}
use Rattle.rulebook.specs.DayAmount.{AccountData, SettlementData, reference_price_of, vested_quantity, tender_amount, vesting_amount, share_amount, hedge_total, report_figure, residual_load, rvq, residual_amount, settles_residual, residual_day, edition_of, interval_amount, exact_amount, posted_amount}
use Rattle.rulebook.specs.WellFormed.{day_bound}
use Rattle.rulebook.specs.Bounds.{Sized, SizedDay}
use Rattle.rulebook.proofs.laws.ReferencePriceLaws.{price-size}
use Rattle.rulebook.proofs.laws.SecondShareLaws.{edition-cap}
use Rattle.rulebook.proofs.laws.TranchesLaws.{tranche-split}
use Rattle.rulebook.proofs.laws.AmountLaws.{SameFigures}

-- ---- One account's interval

-- the same figures are in the same range
pub same_sized : (f g : AccountData) → SameFigures f g → Sized f → Sized g
same_sized f g e h = record {
  bvq = rw (← e.bvq) h.bvq;
  bvp = rw (← e.bvp) h.bvp;
  tvq = λ t l. rw (← e.tvq t l) (h.tvq t l);
  tvp = λ t l. rw (← e.tvp t l) (h.tvp t l);
  few = rw (← e.facilities) h.few;
  mep = λ k l. rw (← e.mep k l) (h.mep k l);
  ieq = λ k l. rw (← e.ieq k l) (h.ieq k l);
  uegq = rw (← e.uegq) h.uegq;
  mq = rw (← e.mq) h.mq;
  rvp1 = rw (← e.rvp1) h.rvp1;
  rvp2 = rw (← e.rvp2) h.rvp2;
}

-- a price less v, and that times a quantity
module _ (v : ℤ) (hv : nat_abs v ≤ most_price) where
  pub difference-size : (p : ℤ) → nat_abs p ≤ most_price → nat_abs (p -ℤ v) ≤ 2000000
  difference-size p l = omega (arith, abs-sub p v)

  pub priced : (p : ℤ) (q most : ℕ) → nat_abs p ≤ most_price → q ≤ most → nat_abs ((p -ℤ v) *ℤ pos q) ≤ 2000000 * most
  priced p q most hp hq = abs-mul_le (p -ℤ v) (pos q) 2000000 most (difference-size p hp) hq

module _ (x : AccountData) (h : Sized x) where
  -- the first n facilities: weights, weighted sum, sum of MEP
  weight-size : (f : ℕ) → f < 4 → weight (x.ieq f) ≤ most_quantity
  weight-size f l = omega (arith, (parts (x.ieq f)).abs, h.ieq f l)

  pub weights-size : (n : ℕ) → n ≤ 4 → sum_ℕ n (λ f. weight (x.ieq f)) ≤ n * 10000000
  weights-size n l = sum_ℕ-le n 10000000 (λ f. weight (x.ieq f)) (λ f b. weight-size f (omega arith))

  pub weighted-size : (n : ℕ) → n ≤ 4 → nat_abs (sum_ℤ n (λ f. x.mep f *ℤ pos (weight (x.ieq f)))) ≤ n * 10000000000000
  weighted-size n l = abs-sum_ℤ n 10000000000000 (λ f. x.mep f *ℤ pos (weight (x.ieq f)))
      (λ f b. abs-mul_le (x.mep f) (pos (weight (x.ieq f))) 1000000 10000000 (h.mep f (omega arith)) (weight-size f (omega arith)))

  pub prices-size : (n : ℕ) → n ≤ 4 → nat_abs (sum_ℤ n x.mep) ≤ n * 1000000
  prices-size n l = abs-sum_ℤ n 1000000 x.mep (λ f b. h.mep f (omega arith))

  -- V
  pub price-sized : nat_abs (reference_price_of x) ≤ most_price
  unfolding reference_price_of
  price-sized = price-size x.facilities x.mep x.ieq (λ f l. h.mep f (omega (arith, h.few)))

  -- at any price for V
  module _ (v : ℤ) (hv : nat_abs v ≤ most_price) where
    pub base-size : nat_abs ((x.bvp -ℤ v) *ℤ pos x.bvq) ≤ 20000000000000
    base-size = priced v hv x.bvp x.bvq most_quantity h.bvp h.bvq

    pub tender-size : (t : ℕ) → t < 3 → nat_abs ((x.tvp t -ℤ v) *ℤ pos (x.tvq t)) ≤ 20000000000000
    tender-size t l = priced v hv (x.tvp t) (x.tvq t) most_quantity (h.tvp t l) (h.tvq t l)

    -- the first n tenders
    pub tenders-size : (n : ℕ) → n ≤ 3 → nat_abs (sum_ℤ n (λ t. (x.tvp t -ℤ v) *ℤ pos (x.tvq t))) ≤ n * 20000000000000
    tenders-size n l = abs-sum_ℤ n 20000000000000 (λ t. (x.tvp t -ℤ v) *ℤ pos (x.tvq t)) (λ t b. tender-size t (omega arith))

    pub tender-amount_size : nat_abs (tender_amount x v) ≤ 60000000000000
    unfolding tender_amount
    tender-amount_size = tenders-size 3 (omega arith)

    -- with the base contract
    pub vesting-partial_size : (n : ℕ) → n ≤ 3
        → nat_abs ((x.bvp -ℤ v) *ℤ pos x.bvq +ℤ sum_ℤ n (λ t. (x.tvp t -ℤ v) *ℤ pos (x.tvq t))) ≤ 20000000000000 + n * 20000000000000
    vesting-partial_size n l = omega (
      arith,
      base-size,
      tenders-size n l,
      abs-add ((x.bvp -ℤ v) *ℤ pos x.bvq) (sum_ℤ n (λ t. (x.tvp t -ℤ v) *ℤ pos (x.tvq t))),
    )

    -- the tranches of a share that is a quantity
    module _ (q : ℕ) (hq : q ≤ most_quantity) where
      pub tranches-size : tranche1 q x.bvq x.mq + tranche2 q x.bvq x.mq ≤ 10000000
      tranches-size = omega (arith, (tranche-split q x.bvq x.mq).whole)

      pub first-tranche_size : nat_abs ((x.rvp1 -ℤ v) *ℤ pos (tranche1 q x.bvq x.mq)) ≤ 20000000000000
      first-tranche_size = priced v hv x.rvp1 (tranche1 q x.bvq x.mq) most_quantity h.rvp1 (omega (arith, tranches-size))

      pub second-tranche_size : nat_abs ((x.rvp2 -ℤ v) *ℤ pos (tranche2 q x.bvq x.mq)) ≤ 20000000000000
      second-tranche_size = priced v hv x.rvp2 (tranche2 q x.bvq x.mq) most_quantity h.rvp2 (omega (arith, tranches-size))

      -- both together are of no more than the share
      pub share-amount_size : nat_abs (share_amount x v q) ≤ 20000000000000
      unfolding share_amount
      share-amount_size =
          let t : ℕ = tranche1 q x.bvq x.mq in
          let u : ℕ = tranche2 q x.bvq x.mq in
          let s = tranches-size in
          let y = priced v hv x.rvp1 t t h.rvp1 (omega arith) in
          let z = priced v hv x.rvp2 u u h.rvp2 (omega arith) in
          omega (arith, abs-add ((x.rvp1 -ℤ v) *ℤ pos t) ((x.rvp2 -ℤ v) *ℤ pos u))

  pub vesting-size : nat_abs (vesting_amount x) ≤ 80000000000000
  unfolding vesting_amount tender_amount
  vesting-size = vesting-partial_size (reference_price_of x) price-sized 3 (omega arith)

  pub vested-size : vested_quantity x ≤ 40000000
  unfolding vested_quantity
  vested-size = omega (arith, h.bvq, sum_ℕ-le 3 10000000 x.tvq h.tvq)

-- ---- All accounts' interval

module _ (n : ℕ) (x : ℕ → AccountData) (h : (b : ℕ) → b < n → Sized (x b)) where
  pub hedge_size : hedge_total n x ≤ n * 40000000
  unfolding hedge_total
  hedge_size = sum_ℕ-le n 40000000 (λ b. vested_quantity (x b)) (λ b k. vested-size (x b) (h b k))

  -- the report's figure after m rounds of tranches
  pub report-size : n ≤ 32 → (m : ℕ) → m ≤ 3 → report_figure n x m ≤ (1 + m) * 320000000
  unfolding report_figure
  report-size few m l =
      let base = sum_ℕ-le n 10000000 (λ b. (x b).bvq) (λ b k. (h b k).bvq) in
      let rounds = sum_ℕ-le m 320000000 (λ t. sum_ℕ n (λ b. (x b).tvq t))
      (λ t k. omega (arith, sum_ℕ-le n 10000000 (λ b. (x b).tvq t) (λ b j. (h b j).tvq t (omega arith)))) in
      omega arith

module _ (load n : ℕ) (x : ℕ → AccountData) (h : (b : ℕ) → b < n → Sized (x b)) where
  -- R, from −1,280,000,000 to 1,000,000,000
  pub residual-load_size : n ≤ 32 → load ≤ most_load → (nat_abs (residual_load load n x) ≤ 1280000000) × (positive (residual_load load n x) ≤ 1000000000)
  unfolding residual_load
  residual-load_size few l =
      let s : ℕ = hedge_total n x in
      let b = hedge_size n x h in
      let p = sub_parts (pos load) (pos s) in
      let q = parts (pos load -ℤ pos s) in
      (omega arith, omega arith)

  module _ (a : ℕ) (la : a < n) where
    -- R × UEGQ
    pub share-product_size : n ≤ 32 → load ≤ most_load → positive (residual_load load n x) * (x a).uegq ≤ 10000000000000000
    share-product_size few l = mul-le-mul (residual-load_size few l).1 (h a la).uegq

    pub rvq-size : (e : Edition) → rvq load n x e a ≤ (x a).uegq
    unfolding rvq
    rvq-size e = edition-cap e (residual_load load n x) n (λ b. (x b).uegq) a

    pub residual-size : (e : Edition) → nat_abs (residual_amount load n x e a) ≤ 20000000000000
    unfolding residual_amount
    residual-size e = share-amount_size (x a) (h a la) (reference_price_of (x a)) (price-sized (x a) (h a la)) (rvq load n x e a) (omega (arith, rvq-size e, (h a la).uegq))

-- ---- The day

-- a vesting amount and, where one is due, a residual amount
pub amount-size : (z y : ℤ) (due : Bool) → nat_abs z ≤ 80000000000000 → (T due → nat_abs y ≤ 20000000000000) → nat_abs (z +ℤ cond due y (pos 0)) ≤ 100000000000000
amount-size z y true h k = omega (arith, abs-add z y, k tt)
amount-size z y false h k = omega (arith, abs-add z (pos 0))

posted-bound : (z : ℤ) → nat_abs z ≤ 4800000000000000 → nat_abs (nearest z 1000) ≤ 4800000000000
posted-bound z h = rw nearest-abs (omega arith)

module _ (o : Terms) (x : SettlementData) (D : ℕ) (now : SizedDay o.accounts x D) (then : T (settles_residual o D) → SizedDay o.accounts x (residual_day o D)) where
  module _ (a : ℕ) (la : a < o.accounts) where
    pub interval-size : (i : ℕ) → i < 48 → nat_abs (interval_amount o x a D i) ≤ 100000000000000
    unfolding interval_amount
    interval-size i hi =
        let r = residual_day o D in
        amount-size (vesting_amount (x.account a D i)) (residual_amount (x.load r i) o.accounts (λ b. x.account b r i) (edition_of o r) a) (settles_residual o D)
        (vesting-size (x.account a D i) (now a i la hi)) (λ t. residual-size (x.load r i) o.accounts (λ b. x.account b r i) (λ b k. then t b i k hi) a la (edition_of o r))

    -- the running total after n intervals
    pub running_size : (n : ℕ) → n ≤ 48 → nat_abs (sum_ℤ n (interval_amount o x a D)) ≤ n * 100000000000000
    running_size n l = abs-sum_ℤ n 100000000000000 (interval_amount o x a D) (λ i hi. interval-size i (omega arith))

    pub exact_size : nat_abs (exact_amount o x a D) ≤ 4800000000000000
    unfolding exact_amount
    exact_size = running_size 48 (omega arith)

    pub posted-size : nat_abs (posted_amount o x a D) ≤ day_bound
    unfolding posted_amount
    posted-size = posted-bound (exact_amount o x a D) exact_size

  -- the first n accounts' posted amounts
  pub posted-sum_size : (n : ℕ) → n ≤ o.accounts → nat_abs (sum_ℤ n (λ a. posted_amount o x a D)) ≤ n * day_bound
  posted-sum_size n l = abs-sum_ℤ n day_bound (λ a. posted_amount o x a D) (λ a k. posted-size a (omega arith))
