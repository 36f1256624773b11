-- Document 01, "Day amount": the data by name, and the formula over them; document 02, P2: the edition of a residual day; P3: the figures of the holders'
-- reports; P5: the rounding difference. Assumes nothing.
use Rattle.std.specs.Prelude.{◌≡◌, Bool, cond, not, ◌&&◌, ◌≢◌, ◌⊎◌, ℕ, ◌+◌, ◌-◌, ◌*◌, ◌≤◌, ◌<◌, min, leb, eqb, ℤ, pos, neg_ℤ, nat_abs, ◌+ℤ◌, ◌-ℤ◌, ◌*ℤ◌}
use Rattle.integer.specs.Below.{sum_ℕ, sum_ℤ}
use Rattle.integer.specs.Nearest.{IsNearest}
use Rattle.rulebook.specs.declared.Terms.{Terms}
use Rattle.rulebook.specs.declared.Edition.{Edition}
use Rattle.rulebook.specs.declared.Edition.TheVariants.{First, Second}
use Rattle.rulebook.specs.Units.{intervals, positive, nearest, thousandths_per_cent}
use Rattle.rulebook.specs.ReferencePrice.{reference_price}
use Rattle.rulebook.specs.Shares.{share, second_share, edition_share, ShareTotal, spare_of}
use Rattle.rulebook.specs.Tranches.{tranche1, tranche2}

-- ---- Data

-- the data of one account, day and interval; absent data and unused pairs are zero
pub record AccountData : Type 0 where
  -- base contract, and tender t of 0 to 2: kWh, cents per MWh
  pub bvq : ℕ
  pub bvp : ℤ
  pub tvq : ℕ → ℕ
  pub tvp : ℕ → ℤ
  -- how many facilities, and facility f's price and metered injection
  pub facilities : ℕ
  pub mep : ℕ → ℤ
  pub ieq : ℕ → ℤ
  -- spare generation, the most that the base contract could have given, and the prices of the two tranches
  pub uegq : ℕ
  pub mq : ℕ
  pub rvp1 : ℤ
  pub rvp2 : ℤ

pub record SettlementData : Type 0 where
  -- by account, day, interval
  pub account : ℕ → ℕ → ℕ → AccountData
  -- NCC load by day, interval
  pub load : ℕ → ℕ → ℕ

-- ---- One interval

abbrev pub tenders : ℕ
tenders = 3

module _ (x : AccountData) where
  -- V
  unfoldable pub reference_price_of : ℤ
  reference_price_of = reference_price x.facilities x.mep x.ieq

  -- BVQ and all TVQ
  unfoldable pub vested_quantity : ℕ
  vested_quantity = x.bvq + sum_ℕ tenders x.tvq

  -- Σ (TVP − v) × TVQ; all amounts here are in thousandths of a cent
  unfoldable pub tender_amount : ℤ → ℤ
  tender_amount v = sum_ℤ tenders (λ t. (x.tvp t -ℤ v) *ℤ pos (x.tvq t))

  -- (BVP − V) × BVQ + Σ (TVP − V) × TVQ
  unfoldable pub vesting_amount : ℤ
  vesting_amount = (x.bvp -ℤ reference_price_of) *ℤ pos x.bvq +ℤ tender_amount reference_price_of

  -- of a share: (RVP1 − v) × tranche 1 + (RVP2 − v) × tranche 2
  unfoldable pub share_amount : ℤ → ℕ → ℤ
  share_amount v rvq =
      (x.rvp1 -ℤ v) *ℤ pos (tranche1 rvq x.bvq x.mq)
      +ℤ (x.rvp2 -ℤ v) *ℤ pos (tranche2 rvq x.bvq x.mq)

-- n accounts' data
module _ (n : ℕ) (x : ℕ → AccountData) where
  -- all accounts' BVQ and TVQ
  unfoldable pub hedge_total : ℕ
  hedge_total = sum_ℕ n (λ b. vested_quantity (x b))

  -- the holders' report reads all accounts' BVQ first, then all first tranches (here TVQ 0, 1 and 2 of a vesting row), the second, the third: its figure after the base round
  -- and the rounds of m tranches
  unfoldable pub report_figure : ℕ → ℕ
  report_figure m = sum_ℕ n (λ b. (x b).bvq) + sum_ℕ m (λ t. sum_ℕ n (λ b. (x b).tvq t))

  -- S, the sum of UEGQ
  unfoldable pub spare_generation : ℕ
  spare_generation = spare_of n (λ b. (x b).uegq)

-- n accounts' data of an interval with this NCC load
module _ (load n : ℕ) (x : ℕ → AccountData) where
  -- R = NCC load minus all accounts' BVQ and TVQ
  unfoldable pub residual_load : ℤ
  residual_load = pos load -ℤ pos (hedge_total n x)

  -- account a's share of R, by edition
  unfoldable pub rvq : Edition → ℕ → ℕ
  rvq e a = edition_share e residual_load n (λ b. (x b).uegq) a

  -- (RVP1 − V) × tranche 1 + (RVP2 − V) × tranche 2 of the share
  unfoldable pub residual_amount : Edition → ℕ → ℤ
  residual_amount e a = share_amount (x a) (reference_price_of (x a)) (rvq e a)

-- the report's figures: after the base round all accounts' BVQ; after each later round that plus all accounts' tranches read so far, the round of tranche t
-- adding the accounts' TVQ of it alone; after the last what R takes from the load, which is the hedge total
pub record ReportFigures (n : ℕ) (x : ℕ → AccountData) : Type 0 where
  pub base : report_figure n x 0 ≡ sum_ℕ n (λ b. (x b).bvq)
  pub so_far : (m : ℕ) → report_figure n x m ≡ sum_ℕ n (λ b. (x b).bvq) + sum_ℕ n (λ b. sum_ℕ m (x b).tvq)
  pub round : (t : ℕ) → report_figure n x (t + 1) ≡ report_figure n x t + sum_ℕ n (λ b. (x b).tvq t)
  pub total : report_figure n x tenders ≡ hedge_total n x
  pub residual : (load : ℕ) → residual_load load n x ≡ pos load -ℤ pos (report_figure n x tenders)

-- what these shares total
abbrev pub IntervalShares : ℕ → ℕ → (ℕ → AccountData) → Edition → Type 0
IntervalShares load n x e = ShareTotal (rvq load n x e) (residual_load load n x) n (λ b. (x b).uegq)

-- ---- The day

-- of n amounts
abbrev pub minus_sum : ℕ → (ℕ → ℤ) → ℤ
minus_sum n f = neg_ℤ (sum_ℤ n f)

-- a day's amount in thousandths of a cent is posted as the nearest whole cent
abbrev pub in_cents : ℤ → ℤ
in_cents thousandths = nearest thousandths thousandths_per_cent

module _ (o : Terms) where
  -- the close of D settles a residual day: r = D − L is not before F
  unfoldable pub settles_residual : ℕ → Bool
  settles_residual D = leb (o.first + o.lag) D

  -- r
  abbrev pub residual_day : ℕ → ℕ
  residual_day D = D - o.lag

  -- the edition of residual day r: the second from X on, and never if X is 0
  unfoldable pub edition_of : ℕ → Edition
  edition_of r = cond (not (eqb o.change 0) && leb o.change r) Second First

  module _ (x : SettlementData) (a D : ℕ) where
    -- account a's amount for closing day D at interval i, in thousandths of a cent: vesting of D, residual of r with V of r
    unfoldable pub interval_amount : ℕ → ℤ
    interval_amount i =
        vesting_amount (x.account a D i)
        +ℤ cond (settles_residual D) (residual_amount (x.load (residual_day D) i) o.accounts (λ b. x.account b (residual_day D) i) (edition_of (residual_day D)) a) (pos 0)

    unfoldable pub exact_amount : ℤ
    exact_amount = sum_ℤ intervals interval_amount

    -- the posted amount, in cents: demand 3's formula amount
    unfoldable pub posted_amount : ℤ
    posted_amount = in_cents exact_amount

  -- the MSSL gets minus the sum of the posted amounts
  unfoldable pub mssl_amount : SettlementData → ℕ → ℤ
  mssl_amount x D = minus_sum o.accounts (λ a. posted_amount x a D)

  -- its exact amount, to which that is near: minus the sum of the exact amounts
  unfoldable pub mssl_exact : SettlementData → ℕ → ℤ
  mssl_exact x D = minus_sum o.accounts (λ a. exact_amount x a D)

  -- 1,000 times what is posted to the MSSL less that, in thousandths of a cent (document 02, P5)
  unfoldable pub rounding_difference : SettlementData → ℕ → ℤ
  rounding_difference x D = pos thousandths_per_cent *ℤ mssl_amount x D -ℤ mssl_exact x D

  -- the shares of a residual day at an interval
  module _ (x : SettlementData) (r i : ℕ) where
    -- R, each UEGQ and each share
    abbrev pub residual_load_at : ℤ
    residual_load_at = residual_load (x.load r i) o.accounts (λ b. x.account b r i)

    abbrev pub uegq_at : ℕ → ℕ
    uegq_at b = (x.account b r i).uegq

    abbrev pub share_at : ℕ → ℕ
    share_at = rvq (x.load r i) o.accounts (λ b. x.account b r i) (edition_of r)

    -- days before X keep the first edition, whose shares total at most the smaller of S and max(R, 0) and fall short of it by fewer kWh than there are
    -- accounts; days from X on have the second, whose shares total exactly the smaller
    pub record ResidualDayShares : Type 0 where
      pub kept_shares : (o.change ≡ 0) ⊎ (r < o.change) → (a : ℕ) → share_at a ≡ share residual_load_at o.accounts uegq_at a
      pub kept_total : (o.change ≡ 0) ⊎ (r < o.change) → ShareTotal share_at residual_load_at o.accounts uegq_at
      pub changed_shares : o.change ≢ 0 → o.change ≤ r → (a : ℕ) → share_at a ≡ second_share residual_load_at o.accounts uegq_at a
      pub changed_total : o.change ≢ 0 → o.change ≤ r → sum_ℕ o.accounts share_at ≡ min (spare_of o.accounts uegq_at) (positive residual_load_at)

  -- an account's amount for D by its parts: the sum over the intervals of vesting of D and, if its close settles a residual day, of r's share by r's edition, priced with
  -- r's own V, BVQ, MQ and prices
  abbrev pub parts_settled : SettlementData → ℕ → ℕ → ℤ
  parts_settled x a D = sum_ℤ intervals (λ i. vesting_amount (x.account a D i)
      +ℤ share_amount (x.account a (D - o.lag) i) (reference_price_of (x.account a (D - o.lag) i)) (share_at x (D - o.lag) i a))

  abbrev pub parts_unsettled : SettlementData → ℕ → ℕ → ℤ
  parts_unsettled x a D = sum_ℤ intervals (λ i. vesting_amount (x.account a D i))

  -- what a close of D posts to account a is the nearest cent to that, and the exact amount is that
  pub record PostedParts (x : SettlementData) (a D : ℕ) : Type 0 where
    pub settles : o.first + o.lag ≤ D → IsNearest (parts_settled x a D) 1000 (posted_amount x a D)
    pub settles_none : D < o.first + o.lag → IsNearest (parts_unsettled x a D) 1000 (posted_amount x a D)
    pub exact_settles : o.first + o.lag ≤ D → exact_amount x a D ≡ parts_settled x a D
    pub exact_settles_none : D < o.first + o.lag → exact_amount x a D ≡ parts_unsettled x a D

  -- the difference is what rounding leaves of each account's amount, together: exact less 1,000 times posted
  pub record DifferenceParts (x : SettlementData) (D : ℕ) : Type 0 where
    pub accounts : rounding_difference x D ≡ sum_ℤ o.accounts (λ a. exact_amount x a D -ℤ pos 1000 *ℤ posted_amount x a D)
    pub within : nat_abs (rounding_difference x D) ≤ o.accounts * 500
