-- What each call does to the rows that are kept. Assumes nothing.
use Rattle.std.specs.Prelude.{◌≡◌, ◌≢◌, ◌⊎◌, Bool, true, cond, not, List, [], ◌∷◌, ℕ, suc, ◌+◌, ◌*◌, ◌≤◌, ◌<◌, ℤ, pos, ◌+ℤ◌, nat_abs, T, Option, Some, None}
use Rattle.std.proofs.Math.Path.{refl, fun_ext}
use Rattle.std.proofs.Common.{sym, ap, ◌∙◌, subst, inl, inr, suc-mul, arith}
use Rattle.std.proofs.Math.Bool.{false}
use Rattle.integer.proofs.laws.IntegerLaws.{abs-add, abs_neg}
use Rattle.integer.specs.Below.{Each}
use Rattle.integer.proofs.laws.BelowLaws.{abs-sum_ℤ}
use Rattle.rulebook.specs.declared.Section.{Section}
use Rattle.rulebook.specs.declared.Section.TheVariants.{Vesting, Meter, Residual, Ncc}
use Rattle.rulebook.specs.declared.Terms.{Terms}
use Rattle.rulebook.specs.Units.{last_day}
use Rattle.rulebook.specs.Layout.{flag_index, InWindow}
use Rattle.rulebook.specs.BookData.{Entries}
use Rattle.rulebook.specs.WellFormed.{is_zero, day_bound, difference_bound}
use Rattle.rulebook.specs.File.{Row}
use Rattle.rulebook.specs.Judging.{open_from, limits_of}
use Rattle.rulebook.specs.Submit.{entry, entry_or}
use Rattle.rulebook.specs.History.{latest, RowsInForce, is_for, last_for}
use Rattle.rulebook.specs.Ledger.{entry_of, entries_in, ledger, replaced, overlaid, RowRanged, Kept}
use Rattle.rulebook.proofs.laws.TestLaws.{below_suc}
use Rattle.rulebook.proofs.laws.LedgerLaws.{IsFor, is_for_lem, Storable}
use Rattle.rulebook.proofs.laws.SoundLaws.{Sound}
use Rattle.rulebook.proofs.laws.KeptLaws.{row_fits_lem, none_or, flag-more, nonzero}
use Rattle.rulebook.proofs.laws.FormLaws.{Fit}

some_same : {A : Type 0} {a b : A} → Some a ≡ Some b → a ≡ b
some_same e = cc

pub some_none : {A X : Type 0} {a : A} → Some a ≡ None → X
some_none e = let z : ◌≡◌ {A = ℕ} 0 1 = cc in absurd (omega arith)

latest-some : {A : Type 0} (x y : Option A) (v : A) → latest x y ≡ Some v → (x ≡ Some v) ⊎ (y ≡ Some v)
unfolding latest
latest-some None y v e = inr e
latest-some (Some a) y v e = inl e

latest-none : {A : Type 0} (x y : Option A) → latest x y ≡ None → (x ≡ None) × (y ≡ None)
unfolding latest
latest-none None y e = (refl, e)
latest-none (Some a) y e = some_none e

-- the last row of a list for a section, account and day is one of the list, and for them
pub last_one : (P : Row → Type 0) (rs : List Row) (s : Section) (a d : ℕ) (r : Row) → Each P rs → last_for rs s a d ≡ Some r → P r × IsFor s a d r
unfolding last_for
last_one P [] s a d r x e = some_none (sym e)
last_one P (q ∷ rs) s a d r x e = go (λ y. last_one P rs s a d r x.1 y) (latest-some _ _ r e)
  where
    here : (b : Bool) → is_for s a d q ≡ b → cond b (Some q) None ≡ Some r → P r × IsFor s a d r
    here true f y = let z = some_same y in (subst P z x.0, subst (IsFor s a d) z (is_for_lem s a d q (subst T (sym f) tt)))
    here false f y = some_none (sym y)

    go : (last_for rs s a d ≡ Some r → P r × IsFor s a d r) → (last_for rs s a d ≡ Some r) ⊎ (cond (is_for s a d q) (Some q) None ≡ Some r) → P r × IsFor s a d r
    go ih (inl y) = ih y
    go ih (inr y) = here (is_for s a d q) refl y

-- a day of the window, and not past the last
pub record StorableDay (o : Terms) (k d : ℕ) : Type 0 where
  pub window : InWindow o k d
  pub dated : d ≤ last_day

pub open-day : (o : Terms) (k : ℕ) (s : Section) (d : ℕ) → 1 ≤ o.horizon → open_from (limits_of o (o.first + k)) s ≤ d → d ≤ (limits_of o (o.first + k)).last → StorableDay o k d
open-day o k Vesting d z h x = record { window = omega arith; dated = omega arith }
open-day o k Meter d z h x = record { window = omega arith; dated = omega arith }
open-day o k Residual d z h x = record { window = omega arith; dated = omega arith }
open-day o k Ncc d z h x = record { window = omega arith; dated = omega arith }

-- a sound row's day
pub sound_day : (o : Terms) (k : ℕ) → 1 ≤ o.horizon → (r : Row) → Sound (limits_of o (o.first + k)) r → StorableDay o k r.day
sound_day o k z r x = open-day o k r.section r.day z x.early x.late

pub storable : (o : Terms) (k : ℕ) → 1 ≤ o.horizon → (rs : List Row) → Each (Sound (limits_of o (o.first + k))) rs → Each (Storable o k) rs
storable o k z [] x = tt
storable o k z (r ∷ rs) x = (record { day = (sound_day o k z r x.0).window; account = x.0.account }, storable o k z rs x.1)

pub kept_same : {o : Terms} {k : ℕ} {rows rows' : RowsInForce} {balance : ℕ → ℤ}
    → ((s : Section) (a d : ℕ) → rows s a d ≡ rows' s a d) → Kept o k rows balance → Kept o k rows' balance
kept_same {o} {k} {rows} {rows'} {balance} e h = subst (λ (r : RowsInForce). Kept o k r balance) (fun_ext (λ s. fun_ext (λ a. fun_ext (λ d. e s a d)))) h

-- an accepted file's rows over those in force
abbrev pub newer : List Row → RowsInForce → RowsInForce
newer rs rows s a d = latest (last_for rs s a d) (rows s a d)

pub overlaid-last : (rs : List Row) (g : Entries) (s : Section) (a d i j : ℕ) → overlaid rs g s a d i j ≡ entry_or (last_for rs s a d) (g s a d) i j
unfolding overlaid last_for
overlaid-last [] g s a d i j = refl
overlaid-last (r ∷ rs) g s a d i j = overlaid-last rs (replaced r g) s a d i j ∙ step (last_for rs s a d) (is_for s a d r)
  where
    step : (x : Option Row) (b : Bool) → entry_or x (λ i j. cond b (entry r i j) (g s a d i j)) i j ≡ entry_or (latest x (cond b (Some r) None)) (g s a d) i j
    step None true = unfold latest in refl
    step None false = unfold latest in refl
    step (Some q) b = unfold latest in refl

pub newer-entries : (rs : List Row) (rows : RowsInForce) (s : Section) (a d i j : ℕ) → overlaid rs (entries_in rows) s a d i j ≡ entries_in (newer rs rows) s a d i j
newer-entries rs rows s a d i j = overlaid-last rs (entries_in rows) s a d i j ∙ step (last_for rs s a d)
  where
    step : (x : Option Row) → entry_or x (entries_in rows s a d) i j ≡ entry_of (latest x (rows s a d)) i j
    step None = unfold latest in refl
    step (Some q) = unfold latest in refl

-- the rows kept
module _ (o : Terms) (k : ℕ) (rows : RowsInForce) (balance : ℕ → ℤ) (q : Kept o k rows balance) (z : 1 ≤ o.horizon) (rs : List Row) (x : Each (Sound (limits_of o (o.first + k))) rs) where
  by_file : (P : Section → ℕ → ℕ → Row → Type 0) → ((s : Section) (a d : ℕ) (r : Row) → Sound (limits_of o (o.first + k)) r → IsFor s a d r → P s a d r)
      → ((s : Section) (a d : ℕ) (r : Row) → rows s a d ≡ Some r → P s a d r) → (s : Section) (a d : ℕ) (r : Row) → newer rs rows s a d ≡ Some r → P s a d r
  by_file P f g s a d r e = go (latest-some (last_for rs s a d) (rows s a d) r e)
    where
      go : (last_for rs s a d ≡ Some r) ⊎ (rows s a d ≡ Some r) → P s a d r
      go (inl y) = let z = last_one (Sound (limits_of o (o.first + k))) rs s a d r x y in f s a d r z.0 z.1
      go (inr y) = g s a d r y

  pub file-kept : Kept o k (newer rs rows) balance
  file-kept = record {
    section = by_file (λ s a d r. r.section ≡ s) (λ s a d r y z. z.section) q.section;
    ranged = by_file (λ s a d r. RowRanged r) (λ s a d r y z. y.ranged) q.ranged;
    ahead = by_file (λ s a d r. d < o.first + k + o.horizon) (λ s a d r y f. omega (arith, (sound_day o k z r y).window, f.day)) q.ahead;
    dated = by_file (λ s a d r. d ≤ last_day) (λ s a d r y f. omega (arith, (sound_day o k z r y).dated, f.day)) q.dated;
    vestings = λ a d ha hd hk e. q.vestings a d ha hd hk (latest-none (last_for rs Vesting a d) (rows Vesting a d) e).1;
    meters = λ a d ha hd hk e. q.meters a d ha hd hk (latest-none (last_for rs Meter a d) (rows Meter a d) e).1;
    bounded = q.bounded;
    begun = q.begun;
  }

-- one day more closed
module _ (o : Terms) (k : ℕ) (rows : RowsInForce) (balance more : ℕ → ℤ) (q : Kept o k rows balance)
    (left : o.first + k ≤ last_day) (vestings : (a : ℕ) → a < o.accounts → rows Vesting a (o.first + k) ≢ None) (meters : (a : ℕ) → a < o.accounts → rows Meter a (o.first + k) ≢ None)
    (amounts : (a : ℕ) → a < o.accounts → nat_abs (more a) ≤ day_bound) where
  older-or : (P : ℕ → Type 0) (d : ℕ) → d < o.first + suc k → (d < o.first + k → P d) → P (o.first + k) → P d
  older-or P d h f g = go (below_suc {i = d} {n = o.first + k} (omega arith))
    where
      go : (d < o.first + k) ⊎ (d ≡ o.first + k) → P d
      go (inl y) = f y
      go (inr y) = subst P (sym y) g

  pub day-kept : Kept o (suc k) rows (λ a. balance a +ℤ more a)
  day-kept = record {
    section = q.section;
    ranged = q.ranged;
    ahead = λ s a d r e. omega (arith, q.ahead s a d r e);
    dated = q.dated;
    vestings = λ a d ha hd hk. older-or (λ x. rows Vesting a x ≢ None) d hk (q.vestings a d ha hd) (vestings a ha);
    meters = λ a d ha hd hk. older-or (λ x. rows Meter a x ≢ None) d hk (q.meters a d ha hd) (meters a ha);
    bounded = λ a ha. omega (arith, abs-add (balance a) (more a), q.bounded a ha, amounts a ha, suc-mul k day_bound);
    begun = omega arith;
  }

module _ (o : Terms) (k : ℕ) (rows : RowsInForce) (balance : ℕ → ℤ) (q : Kept o k rows balance) where
  there : (s : Section) (a d i : ℕ) → rows s a d ≢ None → T (not (is_zero (entry_of (rows s a d) i (flag_index s))))
  there s a d i f = go (none_or (rows s a d))
    where
      go : (rows s a d ≡ None) ⊎ ((r : Row) × (rows s a d ≡ Some r)) → T (not (is_zero (entry_of (rows s a d) i (flag_index s))))
      go (inl e) = absurd (f e)
      go (inr e) = nonzero (ap (λ (x : Option Row). entry_of x i (flag_index s)) e.1 ∙ (flag-more s i e.0 (q.section s a d e.0 e.1) (q.ranged s a d e.0 e.1)).1)

  undated : (s : Section) (a d i j : ℕ) → last_day < d → entry_of (rows s a d) i j ≡ pos 0
  undated s a d i j x = go (none_or (rows s a d))
    where
      go : (rows s a d ≡ None) ⊎ ((r : Row) × (rows s a d ≡ Some r)) → entry_of (rows s a d) i j ≡ pos 0
      go (inl e) = ap (λ (y : Option Row). entry_of y i j) e
      go (inr e) = absurd (omega (arith, q.dated s a d e.0 e.1))

  pub kept-fit : (difference : ℤ) → nat_abs difference ≤ o.accounts * (k * difference_bound) → Fit o (ledger o k rows balance difference)
  kept-fit difference h = record {
    rows = λ s a d i hd ha hi. row_fits_lem s (rows s a d) (λ r e. (q.section s a d r e, q.ranged s a d r e)) (λ j. entry_of (rows s a d) i j) i hi (λ j hj. refl);
    undated = λ s a d i j hd x ha hi hj. undated s a d i j x;
    vestings = λ a d i hd x ha hi. there Vesting a d i (q.vestings a d ha hd.begun x);
    meters = λ a d i hd x ha hi. there Meter a d i (q.meters a d ha hd.begun x);
    bounded = q.bounded;
    mssl = rw abs_neg (abs-sum_ℤ o.accounts (k * day_bound) balance q.bounded);
    differences = h;
    begun = q.begun;
  }
