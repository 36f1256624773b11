-- An interval's shares, the edition of a residual day, and posting: what is posted is the nearest cent to the day's parts, within 500 thousandths; the rounding difference is
-- what that leaves of each account, within N × 500. Assumes nothing.
use Rattle.std.specs.Prelude.{◌≡◌, Bool, not, ◌&&◌, ◌≢◌, ◌⊎◌, eqb, nat_abs, ◌-ℤ◌, ◌*ℤ◌}
use Rattle.std.proofs.Math.Path.{refl}
use Rattle.std.proofs.Common.{subst, inl, inr, arith, lit<}
use Rattle.std.proofs.Math.Bool.{true, false, cond}
use Prim.Native.Nat.{ℕ, zero, suc, ◌+◌, ◌-◌, ◌*◌, ◌≤◌, ◌<◌}
use borrow.Author.Tests.{eq-eqb, ne_eqb, lt-leb, le-leb}
use Rattle.std.proofs.Math.IntN.{ℤ, pos, neg_ℤ, ◌+ℤ◌, +ℤ_idr}
use Rattle.integer.proofs.laws.IntegerLaws.{abs_neg}
use Rattle.integer.specs.Below.{fold, sum_ℤ}
use Rattle.integer.proofs.laws.BelowLaws.{abs-sum_ℤ, sum_ℤ-cong}
use Rattle.integer.proofs.Ring.{as_diff, diffs, ring}
use Rattle.integer.specs.Nearest.{IsNearest}
use Rattle.integer.proofs.laws.NearestLaws.{nearest-is}
use Rattle.rulebook.specs.declared.Terms.{Terms}
use Rattle.rulebook.specs.declared.Edition.{Edition}
use Rattle.rulebook.specs.declared.Edition.TheVariants.{First, Second}
use Rattle.rulebook.specs.Units.{intervals, thousandths_per_cent}
use Rattle.rulebook.specs.Shares.{edition_share}
use Rattle.rulebook.specs.DayAmount.{AccountData, SettlementData, residual_load, rvq, IntervalShares, reference_price_of, vesting_amount, share_amount, residual_amount, settles_residual, edition_of, residual_load_at, uegq_at, share_at, ResidualDayShares, interval_amount, PostedParts, exact_amount, in_cents, posted_amount, mssl_amount, mssl_exact, rounding_difference, DifferenceParts}
use Rattle.rulebook.proofs.laws.SharesLaws.{share-total}
use Rattle.rulebook.proofs.laws.SecondShareLaws.{every-kwh, edition-total}

pub interval-shares : (load n : ℕ) (x : ℕ → AccountData) (e : Edition) → IntervalShares load n x e
unfolding rvq
interval-shares load n x e = edition-total e (residual_load load n x) n (λ b. (x b).uegq)

-- ---- The edition of a residual day

module _ (o : Terms) (r : ℕ) where
  pub edition-first : (o.change ≡ 0) ⊎ (r < o.change) → edition_of o r ≡ First
  unfolding edition_of
  edition-first (inl e) = rw (eq-eqb o.change 0 e) refl
  edition-first (inr h) = rw (lt-leb o.change r h) (go (not (eqb o.change 0)))
    where
      go : (b : Bool) → cond (b && false) Second First ≡ First
      go true = refl
      go false = refl

  pub edition-second : o.change ≢ 0 → o.change ≤ r → edition_of o r ≡ Second
  unfolding edition_of
  edition-second e h = rw (ne_eqb o.change 0 e, le-leb o.change r h) refl

pub residual-day_shares : (o : Terms) (x : SettlementData) (r i : ℕ) → ResidualDayShares o x r i
unfolding rvq edition_share
residual-day_shares o x r i = record {
  kept_shares = λ h a. rw (edition-first o r h) refl;
  kept_total = λ h. rw (edition-first o r h) (share-total (residual_load_at o x r i) o.accounts (uegq_at o x r i));
  changed_shares = λ e h a. rw (edition-second o r e h) refl;
  changed_total = λ e h. rw (edition-second o r e h) (every-kwh (residual_load_at o x r i) o.accounts (uegq_at o x r i)).total;
}

-- ---- Posting

pub posted-parts : (o : Terms) (x : SettlementData) (a D : ℕ) → PostedParts o x a D
unfolding posted_amount exact_amount interval_amount settles_residual residual_amount
posted-parts o x a D = record {
  settles = λ h. near (λ i. settled-at h i);
  settles_none = λ h. near (λ i. unsettled-at h i);
  exact_settles = λ h. sum_ℤ-cong intervals (interval_amount o x a D) _ (λ i l. settled-at h i);
  exact_settles_none = λ h. sum_ℤ-cong intervals (interval_amount o x a D) _ (λ i l. unsettled-at h i);
}
  where
    settled-at : o.first + o.lag ≤ D → (i : ℕ) → interval_amount o x a D i ≡ vesting_amount (x.account a D i)
        +ℤ share_amount (x.account a (D - o.lag) i) (reference_price_of (x.account a (D - o.lag) i)) (share_at o x (D - o.lag) i a)
    settled-at h i = rw (le-leb (o.first + o.lag) D h) refl

    unsettled-at : D < o.first + o.lag → (i : ℕ) → interval_amount o x a D i ≡ vesting_amount (x.account a D i)
    unsettled-at h i = rw (lt-leb (o.first + o.lag) D h) (+ℤ_idr (vesting_amount (x.account a D i)))

    near : {f : ℕ → ℤ} → ((i : ℕ) → interval_amount o x a D i ≡ f i) → IsNearest (sum_ℤ intervals f) 1000 (posted_amount o x a D)
    near {f} e = subst (λ (z : ℤ). IsNearest z 1000 (posted_amount o x a D)) (sum_ℤ-cong intervals (interval_amount o x a D) f (λ i l. e i)) (nearest-is (exact_amount o x a D) 1000 (lit< tt))

-- c times minus a sum of f, less minus a sum of g
sum_ℤ-left : (n : ℕ) (c : ℤ) (f g : ℕ → ℤ) → c *ℤ neg_ℤ (sum_ℤ n f) -ℤ neg_ℤ (sum_ℤ n g) ≡ sum_ℤ n (λ a. g a -ℤ c *ℤ f a)
unfolding fold
sum_ℤ-left zero c f g = rw (as_diff c) (simp diffs (omega ring))
sum_ℤ-left (suc n) c f g =
    rw (← sum_ℤ-left n c f g, as_diff c, as_diff (sum_ℤ n f), as_diff (sum_ℤ n g), as_diff (f n), as_diff (g n)) (simp diffs (omega ring))

left-turned : (c p e : ℤ) → e -ℤ c *ℤ p ≡ neg_ℤ (c *ℤ p -ℤ e)
left-turned c p e = rw (as_diff c, as_diff p, as_diff e) (simp diffs (omega ring))

-- what rounding leaves of an amount
pub left-within : (z : ℤ) → nat_abs (z -ℤ pos thousandths_per_cent *ℤ in_cents z) ≤ 500
left-within z = rw (left-turned (pos 1000) (in_cents z) z, abs_neg) (omega (arith, (nearest-is z 1000 (lit< tt)).within))

module _ (o : Terms) (x : SettlementData) (D : ℕ) where
  pub posted-within : (a : ℕ) → nat_abs (pos thousandths_per_cent *ℤ posted_amount o x a D -ℤ exact_amount o x a D) ≤ 500
  unfolding posted_amount
  posted-within a = omega (arith, (nearest-is (exact_amount o x a D) 1000 (lit< tt)).within)

  -- what it leaves of an account's amount
  abbrev left : ℕ → ℤ
  left a = exact_amount o x a D -ℤ pos thousandths_per_cent *ℤ posted_amount o x a D

  each-within : (a : ℕ) → nat_abs (left a) ≤ 500
  unfolding posted_amount
  each-within a = left-within (exact_amount o x a D)

  accounts-differ : rounding_difference o x D ≡ sum_ℤ o.accounts left
  unfolding rounding_difference mssl_amount mssl_exact
  accounts-differ = sum_ℤ-left o.accounts (pos 1000) (λ a. posted_amount o x a D) (λ a. exact_amount o x a D)

  pub difference-parts : DifferenceParts o x D
  difference-parts = record {
    accounts = accounts-differ;
    within = rw accounts-differ (abs-sum_ℤ o.accounts 500 left (λ a l. each-within a));
  }

  pub mssl-within : nat_abs (pos thousandths_per_cent *ℤ mssl_amount o x D -ℤ mssl_exact o x D) ≤ o.accounts * 500
  unfolding rounding_difference
  mssl-within = difference-parts.within
