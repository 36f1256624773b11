-- Two sources of figures that agree on the days of a close give the same amounts. Assumes nothing.
use Rattle.std.specs.Prelude.{◌≡◌, Bool, ℕ, ◌≤◌, ◌<◌, ℤ, ◌+ℤ◌, ◌-ℤ◌, ◌*ℤ◌, T}
use Rattle.std.proofs.Math.Path.{refl, ap}
use Rattle.std.proofs.Common.{◌∙◌, arith}
use Rattle.std.proofs.Math.Bool.{true, false, cond}
use Rattle.std.proofs.Math.IntN.{pos}
use Rattle.integer.proofs.laws.BelowLaws.{sum_ℤ-cong, sum_ℕ-cong}
use Rattle.rulebook.specs.declared.Terms.{Terms}
use Rattle.rulebook.specs.declared.Edition.{Edition}
use Rattle.rulebook.specs.ReferencePrice.{reference_price}
use Rattle.rulebook.specs.DayAmount.{AccountData, SettlementData, reference_price_of, vested_quantity, tender_amount, vesting_amount, share_amount, hedge_total, residual_load, rvq, residual_amount, settles_residual, residual_day, edition_of, interval_amount, exact_amount, in_cents, posted_amount, mssl_amount, mssl_exact, rounding_difference}
use Rattle.rulebook.proofs.laws.ReferencePriceLaws.{price-cong}
use Rattle.rulebook.proofs.laws.SecondShareLaws.{edition-cong}

-- ---- One interval

-- figures of an account that agree, as far as they are used
pub record SameFigures (f g : AccountData) : Type 0 where
  pub bvq : f.bvq ≡ g.bvq
  pub bvp : f.bvp ≡ g.bvp
  pub tvq : (t : ℕ) → t < 3 → f.tvq t ≡ g.tvq t
  pub tvp : (t : ℕ) → t < 3 → f.tvp t ≡ g.tvp t
  pub facilities : f.facilities ≡ g.facilities
  pub few : f.facilities ≤ 4
  pub mep : (k : ℕ) → k < 4 → f.mep k ≡ g.mep k
  pub ieq : (k : ℕ) → k < 4 → f.ieq k ≡ g.ieq k
  pub uegq : f.uegq ≡ g.uegq
  pub mq : f.mq ≡ g.mq
  pub rvp1 : f.rvp1 ≡ g.rvp1
  pub rvp2 : f.rvp2 ≡ g.rvp2

module _ (f g : AccountData) (e : SameFigures f g) where
  price-same : reference_price_of f ≡ reference_price_of g
  unfolding reference_price_of
  price-same =
      let k = e.few in
      price-cong f.facilities f.mep g.mep f.ieq g.ieq (λ k h. e.mep k (omega arith)) (λ k h. e.ieq k (omega arith))
      ∙ ap (λ (n : ℕ). reference_price n g.mep g.ieq) e.facilities

  vested-same : vested_quantity f ≡ vested_quantity g
  unfolding vested_quantity
  vested-same = rw (e.bvq, sum_ℕ-cong 3 f.tvq g.tvq e.tvq)

  pub vesting-same : vesting_amount f ≡ vesting_amount g
  unfolding vesting_amount tender_amount
  vesting-same = rw (
    price-same,
    e.bvp,
    e.bvq,
    sum_ℤ-cong 3 (λ t. (f.tvp t -ℤ reference_price_of g) *ℤ pos (f.tvq t)) (λ t. (g.tvp t -ℤ reference_price_of g) *ℤ pos (g.tvq t)) (λ t h. rw (e.tvp t h, e.tvq t h)),
  )

module _ (load n : ℕ) (f g : ℕ → AccountData) (e : (b : ℕ) → b < n → SameFigures (f b) (g b)) where
  residual-load_same : residual_load load n f ≡ residual_load load n g
  unfolding residual_load hedge_total
  residual-load_same = rw (sum_ℕ-cong n (λ b. vested_quantity (f b)) (λ b. vested_quantity (g b)) (λ b hb. vested-same (f b) (g b) (e b hb)))

  module _ (edition : Edition) (a : ℕ) (ha : a < n) where
    rvq-same : rvq load n f edition a ≡ rvq load n g edition a
    unfolding rvq
    rvq-same = rw residual-load_same (edition-cong edition (residual_load load n g) n (λ b. (f b).uegq) (λ b. (g b).uegq) (λ b hb. (e b hb).uegq) a ha)

    pub residual-same : residual_amount load n f edition a ≡ residual_amount load n g edition a
    unfolding residual_amount share_amount
    residual-same = rw (rvq-same, price-same (f a) (g a) (e a ha), (e a ha).bvq, (e a ha).mq, (e a ha).rvp1, (e a ha).rvp2)

-- ---- The day

-- the two agree on day d
pub record Agree (n : ℕ) (g g' : SettlementData) (d : ℕ) : Type 0 where
  pub accounts : (a i : ℕ) → a < n → i < 48 → SameFigures (g.account a d i) (g'.account a d i)
  pub loads : (i : ℕ) → i < 48 → g.load d i ≡ g'.load d i

module _ (o : Terms) (g g' : SettlementData) (D : ℕ) (now : Agree o.accounts g g' D) (then : T (settles_residual o D) → Agree o.accounts g g' (residual_day o D)) where
  exact-same : (a : ℕ) → a < o.accounts → exact_amount o g a D ≡ exact_amount o g' a D
  unfolding exact_amount interval_amount
  exact-same a ha = sum_ℤ-cong 48 _ _
      (λ i hi. rw (vesting-same (g.account a D i) (g'.account a D i) (now.accounts a i ha hi)) (go i hi (settles_residual o D) then))
    where
      go : (i : ℕ) → i < 48 → (b : Bool) → (T b → Agree o.accounts g g' (residual_day o D))
          → vesting_amount (g'.account a D i) +ℤ cond b (residual_amount (g.load (residual_day o D) i) o.accounts (λ b. g.account b (residual_day o D) i) (edition_of o (residual_day o D)) a) (pos 0)
          ≡ vesting_amount (g'.account a D i) +ℤ cond b (residual_amount (g'.load (residual_day o D) i) o.accounts (λ b. g'.account b (residual_day o D) i) (edition_of o (residual_day o D)) a) (pos 0)
      go i hi true t =
          let x = residual-same (g.load (residual_day o D) i) o.accounts (λ b. g.account b (residual_day o D) i) (λ b. g'.account b (residual_day o D) i)
          (λ b hb. (t tt).accounts b i hb hi) (edition_of o (residual_day o D)) a ha in
          let l = (t tt).loads i hi in
          ap (λ (y : ℤ). vesting_amount (g'.account a D i) +ℤ y)
          (x ∙ ap (λ (y : ℕ). residual_amount y o.accounts (λ b. g'.account b (residual_day o D) i) (edition_of o (residual_day o D)) a) l)
      go i hi false t = refl

  pub posted-same : (a : ℕ) → a < o.accounts → posted_amount o g a D ≡ posted_amount o g' a D
  unfolding posted_amount
  posted-same a ha = ap in_cents (exact-same a ha)

  pub difference-same : rounding_difference o g D ≡ rounding_difference o g' D
  unfolding rounding_difference mssl_amount mssl_exact
  difference-same = rw (sum_ℤ-cong o.accounts _ _ posted-same, sum_ℤ-cong o.accounts _ _ exact-same)
