-- A close's search finds an absent flag exactly when a row that it needs is not there. Assumes nothing.
use Rattle.std.specs.Prelude.{◌≡◌, ◌≢◌, ◌⊎◌, Bool, not, List, ℕ, ◌+◌, ◌-◌, ◌<◌, ℤ, Option, Some, None}
use Rattle.std.proofs.Math.Path.{refl}
use Rattle.std.proofs.Common.{sym, ap, ◌∙◌, subst, inl, inr}
use Rattle.std.proofs.Math.Logic.{⊎_elim}
use Rattle.std.proofs.Math.Bool.{true, false, cond}
use native.Mathlib.Omega.{arith}
use Rattle.std.proofs.Math.Dec.{T, leb→le}
use Rattle.integer.specs.Below.{first, or_else}
use Rattle.integer.proofs.laws.BelowLaws.{or_else-at, or_else-nothing, nothing-or_else, nothing-first, first_cong, first-front, first-nothing, first-at}
use Rattle.integer.specs.Words.{word}
use Rattle.rulebook.specs.declared.Section.{Section}
use Rattle.rulebook.specs.declared.Section.TheVariants.{Vesting, Meter, Residual, Ncc}
use Rattle.rulebook.specs.declared.Terms.{Terms}
use Rattle.rulebook.specs.DayAmount.{settles_residual}
use Rattle.rulebook.specs.Terms.{InTerms}
use Rattle.rulebook.specs.Sections.{accounts_of}
use Rattle.rulebook.specs.Layout.{flag_index, flag_word, InWindow}
use Rattle.rulebook.specs.WellFormed.{is_zero}
use Rattle.rulebook.specs.File.{Row}
use Rattle.rulebook.specs.Close.{absent_at, residuals_searched, searched, needed_day, absent_flag, missing_at, first_missing}
use Rattle.rulebook.specs.History.{Event, closes, closing_day, RowsInForce, in_force}
use Rattle.rulebook.specs.Demand3.{Needed, vesting_of, meter_of, ncc_of, residual_of, Missing}
use Rattle.rulebook.specs.Companion.{flag_lacking}
use Rattle.rulebook.specs.Ledger.{entry_of, State}
use Rattle.rulebook.proofs.laws.TestLaws.{T-path, not_path}
use Rattle.rulebook.proofs.laws.RowWordLaws.{flag-inside}
use Rattle.rulebook.proofs.laws.KeptLaws.{none_or, flag-more, nonzero}
use Rattle.rulebook.proofs.laws.TestLaws.{zero-yes}

pub nothing-at : {X : Type 0} {v : ℕ} {x : Option ℕ} → x ≡ None → x ≡ Some v → X
nothing-at e f = let z : ◌≡◌ {A = ℕ} 0 1 = cc in absurd (omega arith)

either-at : (v : ℕ) {x y : Option ℕ} → or_else x y ≡ Some v → (x ≡ Some v) ⊎ (y ≡ Some v)
either-at v {x} {y} e = ⊎_elim inl (λ h. inr h.1) (or_else-at x y v e)

or_else-cong : {x x' y y' : Option ℕ} → x ≡ x' → y ≡ y' → or_else x y ≡ or_else x' y'
or_else-cong e f = cc

-- ---- One word

module _ (w : List ℤ) (n : ℕ) where
  pub absent-here : is_zero (word w n) ≡ true → absent_at w n ≡ Some n
  unfolding absent_at
  absent-here e = rw e

  pub absent-not : is_zero (word w n) ≡ false → absent_at w n ≡ None
  unfolding absent_at
  absent-not e = rw e

  pub there : absent_at w n ≡ None → T (not (is_zero (word w n)))
  there e = go (is_zero (word w n)) absent-here
    where
      go : (b : Bool) → (b ≡ true → absent_at w n ≡ Some n) → T (not b)
      go true h = nothing-at e (h refl)
      go false h = tt

-- ---- A search finds what it finds at the rows that a close of D needs

module _ (o : Terms) (D : ℕ) where
  needed-day : {s : Section} {a d : ℕ} → Needed o D s a d → needed_day o D s ≡ d
  needed-day (vesting_of h) = refl
  needed-day (meter_of h) = refl
  needed-day (ncc_of t) = refl
  needed-day (residual_of t h) = refl

  module _ (x : Section → ℕ → Option ℕ) where
    pub searched-nothing : searched o.accounts (settles_residual o D) x ≡ None → (s : Section) (a d : ℕ) → Needed o D s a d → x s a ≡ None
    unfolding searched
    searched-nothing e s a d n = go n
      where
        late : (b : Bool) → T b → cond b (residuals_searched o.accounts x) None ≡ None → residuals_searched o.accounts x ≡ None
        late true t y = y
        late false t y = absurd t

        residuals : T (settles_residual o D) → (x Ncc 0 ≡ None) × (first o.accounts (x Residual) ≡ None)
        residuals t = or_else-nothing _ _ (late (settles_residual o D) t (or_else-nothing _ _ e).1)

        account : (a : ℕ) → a < o.accounts → (x Vesting a ≡ None) × (x Meter a ≡ None)
        account a h = or_else-nothing _ _ (first-nothing o.accounts _ (or_else-nothing _ _ e).0 a h)

        go : {s : Section} {a d : ℕ} → Needed o D s a d → x s a ≡ None
        go (vesting_of {a = b} h) = (account b h).0
        go (meter_of {a = b} h) = (account b h).1
        go (ncc_of t) = (residuals t).0
        go (residual_of {a = b} t h) = first-nothing o.accounts (x Residual) (residuals t).1 b h

    pub nothing-searched : ((s : Section) (a : ℕ) → Needed o D s a (needed_day o D s) → x s a ≡ None) → searched o.accounts (settles_residual o D) x ≡ None
    unfolding searched
    nothing-searched h =
        nothing-or_else _ _ (nothing-first o.accounts _ (λ a l. nothing-or_else _ _ (h Vesting a (vesting_of l)) (h Meter a (meter_of l)))) (late (settles_residual o D) (λ t. t))
      where
        late : (b : Bool) → (T b → T (settles_residual o D)) → cond b (residuals_searched o.accounts x) None ≡ None
        late true t = nothing-or_else _ _ (h Ncc 0 (ncc_of (t tt))) (nothing-first o.accounts _ (λ a l. h Residual a (residual_of (t tt) l)))
        late false t = refl

    pub searched-cong : (y : Section → ℕ → Option ℕ) → ((s : Section) (a : ℕ) → Needed o D s a (needed_day o D s) → x s a ≡ y s a)
        → searched o.accounts (settles_residual o D) x ≡ searched o.accounts (settles_residual o D) y
    unfolding searched
    searched-cong y h =
        or_else-cong (first_cong o.accounts _ _ (λ a l. or_else-cong (h Vesting a (vesting_of l)) (h Meter a (meter_of l)))) (late (settles_residual o D) (λ t. t))
      where
        late : (b : Bool) → (T b → T (settles_residual o D)) → cond b (residuals_searched o.accounts x) None ≡ cond b (residuals_searched o.accounts y) None
        late true t = or_else-cong (h Ncc 0 (ncc_of (t tt))) (first_cong o.accounts _ _ (λ a l. h Residual a (residual_of (t tt) l)))
        late false t = refl

    -- the row at which it finds something
    record Finding (v : ℕ) : Type 0 where
      section : Section
      account : ℕ
      needed : Needed o D section account (needed_day o D section)
      found : x section account ≡ Some v

    searched-at : (v : ℕ) → searched o.accounts (settles_residual o D) x ≡ Some v → Finding v
    unfolding searched
    searched-at v e = ⊎_elim accounts (late (settles_residual o D) (λ t. t)) (either-at v e)
      where
        accounts : first o.accounts (λ a. or_else (x Vesting a) (x Meter a)) ≡ Some v → Finding v
        accounts y =
            let r = first-at o.accounts _ v y in
            ⊎_elim
            (λ z. record { section = Vesting; account = r.0; needed = vesting_of r.1; found = z })
            (λ z. record { section = Meter; account = r.0; needed = meter_of r.1; found = z })
            (either-at v r.2)

        late : (b : Bool) → (T b → T (settles_residual o D)) → cond b (residuals_searched o.accounts x) None ≡ Some v → Finding v
        late true t y =
            ⊎_elim
            (λ z. record { section = Ncc; account = 0; needed = ncc_of (t tt); found = z })
            (λ z. let r = first-at o.accounts (x Residual) v z in record { section = Residual; account = r.0; needed = residual_of (t tt) r.1; found = r.2 })
            (either-at v y)
        late false t y = nothing-at refl y

-- nothing missing: each flag of a row that is needed is there
pub needed-there : (o : Terms) (w : List ℤ) (D : ℕ) → first_missing o w D ≡ None → (s : Section) (a d i : ℕ) → Needed o D s a d → i < 48 → T (not (is_zero (word w (flag_word o s a d i))))
unfolding first_missing missing_at
needed-there o w D e s a d i n h = there w (flag_word o s a d i) (subst (λ (d : ℕ). absent_at w (flag_word o s a d i) ≡ None) (needed-day o D n)
    (searched-nothing o D (absent_flag o w D i) (first-nothing 48 (missing_at o w D) e i h) s a d n))

-- ---- A row that is not in force lacks its flags

lack_any : (x : Option Row) (n m : ℕ) → flag_lacking x n ≡ None → flag_lacking x m ≡ None
lack_any None n m e = nothing-at e refl
lack_any (Some r) n m e = refl

lack_not : (x : Option Row) (n : ℕ) → flag_lacking x n ≡ None → x ≢ None
lack_not x n e f = nothing-at e (ap (λ (y : Option Row). flag_lacking y n) f)

lack_none : (x : Option Row) (n v : ℕ) → flag_lacking x n ≡ Some v → x ≡ None
lack_none None n v e = refl
lack_none (Some r) n v e = nothing-at refl e

-- after a history, in whose state the book is
module _ (o : Terms) (t : InTerms o) (past : List Event) (w : List ℤ) (h : State o past w) where
  abbrev rows : RowsInForce
  rows = in_force past

  pub today : InWindow o (closes past) (closing_day o past)
  today = omega arith

  pub back : T (settles_residual o (closing_day o past)) → InWindow o (closes past) (closing_day o past - o.lag)
  unfolding settles_residual
  back x = let y = leb→le (o.first + o.lag) (closing_day o past) x in omega arith

  -- a row that is needed has a day of the window
  needed-open : {s : Section} {a d : ℕ} → Needed o (closing_day o past) s a d → InWindow o (closes past) d × (a < accounts_of s o.accounts)
  needed-open (vesting_of l) = (today, l)
  needed-open (meter_of l) = (today, l)
  needed-open (ncc_of x) = (back x, omega arith)
  needed-open (residual_of x l) = (back x, l)

  -- its flag is zero exactly if it is not in force
  flag_is : (s : Section) (a d i : ℕ) → Needed o (closing_day o past) s a d → i < 48 → absent_at w (flag_word o s a d i) ≡ flag_lacking (rows s a d) (flag_word o s a d i)
  flag_is s a d i n hi = go (none_or (rows s a d))
    where
      held : word w (flag_word o s a d i) ≡ entry_of (rows s a d) i (flag_index s)
      held = h.holds.held s a d i (flag_index s) (needed-open n).0 (needed-open n).1 hi (flag-inside s)

      go : (rows s a d ≡ None) ⊎ ((r : Row) × (rows s a d ≡ Some r)) → absent_at w (flag_word o s a d i) ≡ flag_lacking (rows s a d) (flag_word o s a d i)
      go (inl x) = absent-here w (flag_word o s a d i) (T-path _ (zero-yes (held ∙ ap (λ (y : Option Row). entry_of y i (flag_index s)) x)))
          ∙ ap (λ (y : Option Row). flag_lacking y (flag_word o s a d i)) (sym x)
      go (inr x) = absent-not w (flag_word o s a d i)
          (not_path _ (nonzero (held ∙ ap (λ (y : Option Row). entry_of y i (flag_index s)) x.1 ∙ (flag-more s i x.0 (h.kept.section s a d x.0 x.1) (h.kept.ranged s a d x.0 x.1)).1)))
          ∙ ap (λ (y : Option Row). flag_lacking y (flag_word o s a d i)) (sym x.1)

  -- what is found at a row in interval i, and by the search
  abbrev lacking_in : ℕ → Section → ℕ → Option ℕ
  lacking_in i s a = flag_lacking (rows s a (needed_day o (closing_day o past) s)) (flag_word o s a (needed_day o (closing_day o past) s) i)

  abbrev lacking_at : ℕ → Option ℕ
  lacking_at i = searched o.accounts (settles_residual o (closing_day o past)) (lacking_in i)

  missing-is : (i : ℕ) → i < 48 → missing_at o w (closing_day o past) i ≡ lacking_at i
  unfolding missing_at
  missing-is i hi = searched-cong o (closing_day o past) (absent_flag o w (closing_day o past) i) (lacking_in i) (λ s a n. flag_is s a (needed_day o (closing_day o past) s) i n hi)

  -- a row has all its intervals, so nothing is missing where interval 0 misses nothing
  lacking-any : lacking_at 0 ≡ None → (i : ℕ) → lacking_at i ≡ None
  lacking-any e i = nothing-searched o (closing_day o past) (lacking_in i)
      (λ s a n. lack_any (rows s a (needed_day o (closing_day o past) s)) _ _ (searched-nothing o (closing_day o past) (lacking_in 0) e s a (needed_day o (closing_day o past) s) n))

  -- the search told from the rows
  pub search_is : first_missing o w (closing_day o past) ≡ lacking_at 0
  unfolding first_missing
  search_is = first_cong 48 (missing_at o w (closing_day o past)) lacking_at missing-is ∙ first-front 47 lacking_at (λ e i l. lacking-any e i)

  -- nothing missing: each row that is needed is there
  pub all_there_lem : first_missing o w (closing_day o past) ≡ None → (s : Section) (a d : ℕ) → Needed o (closing_day o past) s a d → rows s a d ≢ None
  all_there_lem e s a d n = subst (λ (d : ℕ). rows s a d ≢ None) (needed-day o (closing_day o past) n)
      (lack_not (rows s a (needed_day o (closing_day o past) s)) _ (searched-nothing o (closing_day o past) (lacking_in 0) (sym search_is ∙ e) s a d n))

  pub some_missing : (v : ℕ) → first_missing o w (closing_day o past) ≡ Some v → Missing o past
  some_missing v e =
      let f = searched-at o (closing_day o past) (lacking_in 0) v (sym search_is ∙ e) in
      let d = needed_day o (closing_day o past) f.section in
      record { section = f.section; account = f.account; day = d; needed = f.needed; absent = lack_none (rows f.section f.account d) _ v f.found }
