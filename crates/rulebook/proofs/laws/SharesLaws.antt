-- Shares: what the rule says of one, and of an interval's total. Assumes nothing.
use Rattle.std.specs.Prelude.{◌≡◌, refl, Bool, true, false, cond, ◌||◌, ◌⊎◌, ℕ, zero, suc, ◌+◌, ◌*◌, ◌/◌, ◌≤◌, ◌<◌, eqb, ℤ, pos, negsuc, ◌*ℤ◌}
use Rattle.std.proofs.Common.{sym, ap, ◌∙◌, inl, inr, ⊎_elim, mod-lt, mul-add, suc-mul, mul_comm, mul-zero, zero-mul, mul-le-mul, le_refl, arith, eq-eqb, ne_eqb}
use Rattle.std.proofs.Math.Nat.{div-add-mod, le_of_mul-le-mul_left, lt_of_mul-lt-mul_left, div-le_of_le-mul}
use Rattle.std.specs.Int.Signed.{le_z}
use Rattle.integer.specs.Integer.{positive}
use Rattle.integer.proofs.laws.IntegerLaws.{int, parts, le_true, le_false, neg_parts}
use Rattle.integer.specs.Below.{fold, sum_ℕ}
use Rattle.integer.proofs.laws.BelowLaws.{lt_or_le, fold-unit, sum_ℕ-cong}
use Rattle.rulebook.specs.Shares.{shared_or, part_of, share_of, share, RuleShare, ShareTotal}

-- ---- The three cases

-- 0 if R ≤ 0 or S = 0
pub shared-none : (r : ℤ) (s u part : ℕ) → (positive r ≡ 0) ⊎ (s ≡ 0) → shared_or r s u part ≡ 0
shared-none r s u part (inl h) = rw (le_true r (pos 0) (omega int))
shared-none r s u part (inr h) = rw (eq-eqb s 0 h) (go (le_z r (pos 0)))
  where
    go : (b : Bool) → cond (b || true) 0 (cond (le_z (pos s) r) u part) ≡ 0
    go true = refl
    go false = refl

pub share-none : (r : ℤ) (s u : ℕ) → (positive r ≡ 0) ⊎ (s ≡ 0) → share_of r s u ≡ 0
unfolding share_of
share-none r s u h = shared-none r s u (part_of r s u) h

not_none : (r : ℤ) (s : ℕ) → 0 < positive r → 0 < s → (le_z r (pos 0) || eqb s 0) ≡ false
not_none r s h k = rw (le_false r (pos 0) (omega (int, parts r)), ne_eqb s 0 (λ e. absurd (omega arith)))

-- UEGQ if R ≥ S
pub shared-full : (r : ℤ) (s u part : ℕ) → 0 < s → s ≤ positive r → shared_or r s u part ≡ u
shared-full r s u part h k = rw (not_none r s (omega arith) h, le_true (pos s) r (omega (int, parts r)))

pub share-full : (r : ℤ) (s u : ℕ) → 0 < s → s ≤ positive r → share_of r s u ≡ u
unfolding share_of
share-full r s u h k = shared-full r s u (part_of r s u) h k

-- else a part
pub shared-part : (r : ℤ) (s u part : ℕ) → 0 < positive r → positive r < s → shared_or r s u part ≡ part
shared-part r s u part h k = rw (not_none r s h (omega arith), le_false (pos s) r (omega (int, parts r)))

pub share_part : (r : ℤ) (s u : ℕ) → 0 < positive r → positive r < s → share_of r s u ≡ part_of r s u
unfolding share_of
share_part r s u h k = shared-part r s u (part_of r s u) h k

-- ---- One share

positive-mul : (r : ℤ) (u : ℕ) → positive (r *ℤ pos u) ≡ positive r * u
positive-mul (pos n) u = refl
positive-mul (negsuc n) u = (neg_parts (pos (suc n * u))).pos-part ∙ sym (zero-mul u)

pub quotient-says : (x s : ℕ) → 0 < s → (s * (x / s) ≤ x) × (x < s * (x / s) + s)
quotient-says x s h = omega (arith, div-add-mod x s, mod-lt x h)

-- and is the greatest number that s times it is not above
pub quotient-greatest : (x s p : ℕ) → 0 < s → s * p ≤ x → p ≤ x / s
quotient-greatest x s p h l =
    let y = quotient-says x s h in
    ⊎_elim
    (λ q. let m : s * (x / s + 1) ≤ s * p = mul-le-mul (le_refl s) (omega arith) in absurd (omega (arith, y.1, m, l, mul-add s (x / s) 1)))
    (λ q. q)
    (lt_or_le (x / s) p)

pub none_or_some : (r : ℤ) (s : ℕ) → ((positive r ≡ 0) ⊎ (s ≡ 0)) ⊎ ((0 < positive r) × (0 < s))
none_or_some r s =
    ⊎_elim (λ h. ⊎_elim (λ k. inr (h, k)) (λ k. inl (inr (omega arith))) (lt_or_le 0 s)) (λ h. inl (inl (omega arith))) (lt_or_le 0 (positive r))

pub share-rule : (r : ℤ) (s u : ℕ) → 0 < s → RuleShare r s u (share_of r s u)
share-rule r s u h = ⊎_elim none (λ k. ⊎_elim (part k.0) full (lt_or_le (positive r) s)) (none_or_some r s)
  where
    none : (positive r ≡ 0) ⊎ (s ≡ 0) → RuleShare r s u (share_of r s u)
    none k =
        let e : positive r ≡ 0 = ⊎_elim (λ p. p) (λ p. absurd (omega arith)) k in
        let z : positive (r *ℤ pos u) ≡ 0 = positive-mul r u ∙ ap (λ (x : ℕ). x * u) e ∙ zero-mul u in
        rw (share-none r s u k) (record {
          fits = record { quotient = omega arith; cap = omega arith };
          greatest = λ p n. let m : p * 1 ≤ p * s = mul-le-mul (le_refl p) h in omega (arith, n.quotient);
        })

    full : s ≤ positive r → RuleShare r s u (share_of r s u)
    full k =
        let m : s * u ≤ positive r * u = mul-le-mul k (le_refl u) in
        rw (share-full r s u h k) (record {
          fits = record { quotient = omega (arith, positive-mul r u, mul_comm s u); cap = le_refl u };
          greatest = λ p n. n.cap;
        })

    part : 0 < positive r → positive r < s → RuleShare r s u (share_of r s u)
    part g k =
        let x : ℕ = positive r * u in
        let y = quotient-says x s h in
        let m : positive r * u ≤ s * u = mul-le-mul (omega arith) (le_refl u) in
        rw (share_part r s u g k) (record {
          fits = record { quotient = omega (arith, y.0, positive-mul r u, mul_comm s (x / s)); cap = div-le_of_le-mul s (omega (arith, m, mul_comm s u)) };
          greatest = λ p n. quotient-greatest x s p h (omega (arith, n.quotient, positive-mul r u, mul_comm s p));
        })

-- no share is above its UEGQ
pub share-cap : (r : ℤ) (s u : ℕ) → share_of r s u ≤ u
share-cap r s u =
    ⊎_elim (λ h. (share-rule r s u h).fits.cap) (λ h. let e = share-none r s u (inr (omega arith)) in omega arith) (lt_or_le 0 s)

-- ---- An interval's total

-- n quotients of r times u a by s
quotients_say : (n r s : ℕ) (u : ℕ → ℕ) → 0 < s
    → (s * sum_ℕ n (λ a. r * u a / s) ≤ r * sum_ℕ n u) × (r * sum_ℕ n u + n ≤ s * sum_ℕ n (λ a. r * u a / s) + n * s)
unfolding fold
quotients_say zero r s u h = (omega (arith, mul-zero r, mul-zero s), omega (arith, mul-zero r, mul-zero s))
quotients_say (suc n) r s u h =
    let x = quotients_say n r s u h in
    let y = quotient-says (r * u n) s h in
    let a = mul-add s (sum_ℕ n (λ a. r * u a / s)) (r * u n / s) in
    let b = mul-add r (sum_ℕ n u) (u n) in
    let c = suc-mul n s in
    (omega (arith, x.0, y.0), omega (arith, x.1, y.1))

pub share-total : (r : ℤ) (n : ℕ) (uegq : ℕ → ℕ) → ShareTotal (share r n uegq) r n uegq
unfolding share
share-total r n uegq = ⊎_elim none (λ k. ⊎_elim (part k.0) (full k.1) (lt_or_le (positive r) (sum_ℕ n uegq))) (none_or_some r (sum_ℕ n uegq))
  where
    none : (positive r ≡ 0) ⊎ (sum_ℕ n uegq ≡ 0) → ShareTotal (share r n uegq) r n uegq
    none k =
        let e = fold-unit ◌+◌ 0 refl n (λ a. share_of r (sum_ℕ n uegq) (uegq a)) (λ a l. share-none r (sum_ℕ n uegq) (uegq a) k) in
        record {
          spare = omega arith;
          residual = omega arith;
          short = λ l. ⊎_elim (λ p. omega arith) (λ p. omega arith) k;
        }

    full : 0 < sum_ℕ n uegq → sum_ℕ n uegq ≤ positive r → ShareTotal (share r n uegq) r n uegq
    full h k =
        let e = sum_ℕ-cong n (λ a. share_of r (sum_ℕ n uegq) (uegq a)) uegq (λ a l. share-full r (sum_ℕ n uegq) (uegq a) h k) in
        record { spare = omega arith; residual = omega arith; short = λ l. omega arith }

    scaled : (s q : ℕ) → positive r < s → (s * q ≤ positive r * s) × (positive r * s + n ≤ s * q + n * s) → (q ≤ positive r) × (0 < n → positive r < q + n)
    scaled s q h x = (
      le_of_mul-le-mul_left {m = q} {n = positive r} {k = s} (omega (arith, x.0, mul_comm (positive r) s)) (omega arith),
      λ l. lt_of_mul-lt-mul_left s {m = positive r} {n = q + n} (omega (arith, x.1, mul-add s q n, mul_comm (positive r) s, mul_comm n s)),
    )

    part : 0 < positive r → positive r < sum_ℕ n uegq → ShareTotal (share r n uegq) r n uegq
    part h k =
        let q = sum_ℕ n (λ a. positive r * uegq a / sum_ℕ n uegq) in
        let e : sum_ℕ n (λ a. share_of r (sum_ℕ n uegq) (uegq a)) ≡ q = sum_ℕ-cong n _ (λ a. positive r * uegq a / sum_ℕ n uegq) (λ a l. share_part r (sum_ℕ n uegq) (uegq a) h k) in
        let t = scaled (sum_ℕ n uegq) q k (quotients_say n (positive r) (sum_ℕ n uegq) uegq (omega arith)) in
        record { spare = omega (arith, t.0); residual = omega (arith, t.0); short = λ l. omega (arith, t.1 l) }
