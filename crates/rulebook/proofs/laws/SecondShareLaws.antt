-- The second edition's shares (document 02, P2): what is proved of one, of an interval's total, and of either edition. Assumes nothing.
use Rattle.std.specs.Prelude.{◌≡◌, refl, ◌⊎◌, ℤ}
use Rattle.std.proofs.Common.{sym, ◌∙◌, ⊎_elim, mul-add, suc-mul, mul_comm, mul-le-mul, le_refl, mul-div_cancel, arith}
use Rattle.std.proofs.Math.Path.{ap}
use Prim.Native.Nat.{ℕ, ◌+◌, ◌-◌, ◌*◌, ◌/◌, ◌≤◌, ◌<◌, min}
use Rattle.std.proofs.Math.Nat.{lt_of_mul-lt-mul_left}
use Rattle.integer.specs.Integer.{positive}
use Rattle.integer.specs.Below.{fold, sum_ℕ}
use Rattle.integer.proofs.laws.BelowLaws.{lt_or_le, fold-suc, sum_ℕ-cong, sum_ℕ-rises}
use Rattle.rulebook.specs.declared.Edition.{Edition}
use Rattle.rulebook.specs.declared.Edition.TheVariants.{First, Second}
use Rattle.rulebook.specs.Shares.{shared_or, part_of, share_of, share, running_sum, second_share_of, second_share, edition_share, share_by, spare_of, ShareTotal, EveryKwh}
use Rattle.rulebook.proofs.laws.SharesLaws.{shared-none, shared-full, shared-part, share-none, share-full, share_part, quotient-says, quotient-greatest, none_or_some, share-cap, share-total}

-- ---- One share

-- a share is what the accounts with it get more than those before it, each taken as one account of the first edition
pub second_is : (r : ℤ) (s before u : ℕ) → second_share_of r s before u ≡ share_of r s (before + u) - share_of r s before
unfolding second_share_of
second_is r s before u = ⊎_elim none_is (λ k. ⊎_elim (part-is k.0) (full_is k.1) (lt_or_le (positive r) s)) (none_or_some r s)
  where
    part : ℕ
    part = part_of r s (before + u) - part_of r s before

    none_is : (positive r ≡ 0) ⊎ (s ≡ 0) → shared_or r s u part ≡ share_of r s (before + u) - share_of r s before
    none_is k = shared-none r s u part k ∙ rw (share-none r s (before + u) k, share-none r s before k) refl

    full_is : 0 < s → s ≤ positive r → shared_or r s u part ≡ share_of r s (before + u) - share_of r s before
    full_is h k = shared-full r s u part h k ∙ omega (arith, share-full r s (before + u) h k, share-full r s before h k)

    part-is : 0 < positive r → positive r < s → shared_or r s u part ≡ share_of r s (before + u) - share_of r s before
    part-is h k = shared-part r s u part h k ∙ rw (share_part r s (before + u) h k, share_part r s before h k) refl

-- more UEGQ, no smaller share
pub share-rises : (r : ℤ) (s u v : ℕ) → share_of r s u ≤ share_of r s (u + v)
share-rises r s u v = ⊎_elim none_rises (λ k. ⊎_elim (part-rises k.0) (full-rises k.1) (lt_or_le (positive r) s)) (none_or_some r s)
  where
    none_rises : (positive r ≡ 0) ⊎ (s ≡ 0) → share_of r s u ≤ share_of r s (u + v)
    none_rises k = omega (arith, share-none r s u k)

    full-rises : 0 < s → s ≤ positive r → share_of r s u ≤ share_of r s (u + v)
    full-rises h k = omega (arith, share-full r s u h k, share-full r s (u + v) h k)

    part-rises : 0 < positive r → positive r < s → share_of r s u ≤ share_of r s (u + v)
    part-rises h k = rw (share_part r s u h k, share_part r s (u + v) h k)
        (quotient-greatest (positive r * (u + v)) s (positive r * u / s) (omega arith) (omega (arith, (quotient-says (positive r * u) s (omega arith)).0, mul-add (positive r) u v)))

-- one account with all UEGQ gets the smaller of S and max(R, 0)
share-all : (r : ℤ) (s : ℕ) → share_of r s s ≡ min s (positive r)
share-all r s = ⊎_elim none_all (λ k. ⊎_elim (part-all k.0) (full-all k.1) (lt_or_le (positive r) s)) (none_or_some r s)
  where
    none_all : (positive r ≡ 0) ⊎ (s ≡ 0) → share_of r s s ≡ min s (positive r)
    none_all k = share-none r s s k ∙ ⊎_elim (λ e. omega (arith, e)) (λ e. omega (arith, e)) k

    full-all : 0 < s → s ≤ positive r → share_of r s s ≡ min s (positive r)
    full-all h k = share-full r s s h k ∙ omega arith

    part-all : 0 < positive r → positive r < s → share_of r s s ≡ min s (positive r)
    part-all h k = let p : 0 < s = omega arith in share_part r s s h k ∙ mul-div_cancel (positive r) p ∙ omega arith

-- a part by running sums is within 1 of R × UEGQ / S
second-near : (r s before u : ℕ) → 0 < s
    → (r * u < (r * (before + u) / s - r * before / s + 1) * s) × ((r * (before + u) / s - r * before / s) * s < r * u + s)
second-near r s before u h =
    let q = r * (before + u) / s in
    let p = r * before / s in
    let x = quotient-says (r * (before + u)) s h in
    let y = quotient-says (r * before) s h in
    let m = mul-add r before u in
    let l : p ≤ q = quotient-greatest (r * (before + u)) s p h (omega (arith, y.0, m)) in
    let e : q ≡ p + (q - p) = omega arith in
    let d : s * q ≡ s * p + s * (q - p) = ap (λ (n : ℕ). s * n) e ∙ mul-add s p (q - p) in
    (omega (arith, x.1, y.0, m, d, mul_comm s (q - p), suc-mul (q - p) s), omega (arith, x.0, y.1, m, d, mul_comm s (q - p)))

-- no share is above its UEGQ
second-cap : (r : ℤ) (s before u : ℕ) → second_share_of r s before u ≤ u
unfolding second_share_of
second-cap r s before u = ⊎_elim none_cap (λ k. ⊎_elim (part-cap k.0) (full-cap k.1) (lt_or_le (positive r) s)) (none_or_some r s)
  where
    part : ℕ
    part = part_of r s (before + u) - part_of r s before

    none_cap : (positive r ≡ 0) ⊎ (s ≡ 0) → shared_or r s u part ≤ u
    none_cap k = omega (arith, shared-none r s u part k)

    full-cap : 0 < s → s ≤ positive r → shared_or r s u part ≤ u
    full-cap h k = omega (arith, shared-full r s u part h k)

    part-cap : 0 < positive r → positive r < s → shared_or r s u part ≤ u
    part-cap h k =
        let x = (second-near (positive r) s before u (omega arith)).1 in
        let m : positive r * u ≤ s * u = mul-le-mul (omega arith) (le_refl u) in
        let l : part < u + 1 = lt_of_mul-lt-mul_left s {m = part} {n = u + 1} (omega (arith, x, m, mul_comm s part, mul-add s u 1)) in
        omega (arith, shared-part r s u part h k, l)

no_sum : (f : ℕ → ℕ) → sum_ℕ 0 f ≡ 0
unfolding fold
no_sum f = refl

module _ (r : ℤ) (n : ℕ) (uegq : ℕ → ℕ) where
  abbrev spare : ℕ
  spare = sum_ℕ n uegq

  second-together : (a : ℕ) → sum_ℕ a (second_share r n uegq) ≡ share_of r spare (running_sum uegq a)
  unfolding second_share
  second-together a =
      let e = sum_ℕ-rises a (λ i. share_of r spare (sum_ℕ i uegq)) (λ i l. rw (fold-suc ◌+◌ 0 i uegq) (share-rises r spare (sum_ℕ i uegq) (uegq i))) in
      let g = sum_ℕ-cong a (λ i. second_share_of r spare (sum_ℕ i uegq) (uegq i)) (λ i. share_of r spare (sum_ℕ (i + 1) uegq) - share_of r spare (sum_ℕ i uegq))
      (λ i l. second_is r spare (sum_ℕ i uegq) (uegq i) ∙ ap (λ (x : ℕ). share_of r spare x - share_of r spare (sum_ℕ i uegq)) (sym (fold-suc ◌+◌ 0 i uegq))) in
      omega (arith, e, g, share-cap r spare (sum_ℕ 0 uegq), no_sum uegq)

  pub every-kwh : EveryKwh (second_share r n uegq) r n uegq
  unfolding second_share second_share_of
  every-kwh = record {
    total = second-together n ∙ share-all r spare;
    cap = λ a. second-cap r spare (sum_ℕ a uegq) (uegq a);
    below = λ h k a. rw (share-is h k a) (second-near (positive r) spare (sum_ℕ a uegq) (uegq a) (omega arith)).0;
    above = λ h k a. rw (share-is h k a) (second-near (positive r) spare (sum_ℕ a uegq) (uegq a) (omega arith)).1;
    together = second-together;
  }
    where
      share-is : 0 < positive r → positive r < spare → (a : ℕ)
          → second_share_of r spare (sum_ℕ a uegq) (uegq a) ≡ positive r * (sum_ℕ a uegq + uegq a) / spare - positive r * sum_ℕ a uegq / spare
      share-is h k a = shared-part r spare (uegq a) _ h k

-- ---- By edition

pub share-by_cap : (e : Edition) (r : ℤ) (s before u : ℕ) → share_by e r s before u ≤ u
unfolding share_by
share-by_cap First r s before u = share-cap r s u
share-by_cap Second r s before u = second-cap r s before u

-- account a's share goes by S, the running sum before it and its UEGQ
pub edition-by : (e : Edition) (r : ℤ) (n : ℕ) (uegq : ℕ → ℕ) (a : ℕ) → edition_share e r n uegq a ≡ share_by e r (spare_of n uegq) (running_sum uegq a) (uegq a)
unfolding edition_share share_by share second_share
edition-by First r n uegq a = refl
edition-by Second r n uegq a = refl

pub edition-cap : (e : Edition) (r : ℤ) (n : ℕ) (uegq : ℕ → ℕ) (a : ℕ) → edition_share e r n uegq a ≤ uegq a
edition-cap e r n uegq a = rw (edition-by e r n uegq a) (share-by_cap e r (spare_of n uegq) (running_sum uegq a) (uegq a))

-- the UEGQ of the n accounts decide
pub edition-cong : (e : Edition) (r : ℤ) (n : ℕ) (f g : ℕ → ℕ) → ((b : ℕ) → b < n → f b ≡ g b) → (a : ℕ) → a < n → edition_share e r n f a ≡ edition_share e r n g a
edition-cong e r n f g h a l =
    edition-by e r n f a ∙ rw (sum_ℕ-cong n f g h, sum_ℕ-cong a f g (λ b k. h b (omega arith)), h a l) (sym (edition-by e r n g a))

-- either edition's shares total as the buyer demands
pub edition-total : (e : Edition) (r : ℤ) (n : ℕ) (uegq : ℕ → ℕ) → ShareTotal (edition_share e r n uegq) r n uegq
unfolding edition_share
edition-total First r n uegq = share-total r n uegq
edition-total Second r n uegq = let t = (every-kwh r n uegq).total in record { spare = omega (arith, t); residual = omega (arith, t); short = λ l. omega (arith, t) }
