-- The close's nested search goes through the flags in search order. Assumes nothing.
use Rattle.std.proofs.Math.Path.{◌≡◌, refl, sym, ap, subst}
use Rattle.std.proofs.Common.{◌∙◌, inl, inr, arith, le-ltb}
use Rattle.std.specs.Prelude.{◌≢◌, ◌⊎◌, true, not, ℤ, T, length, Option, Some, None}
use Rattle.std.proofs.Math.Bool.{Bool, false, cond}
use mathlib.Core.List.{List, [], ◌∷◌, ◌++◌}
use Prim.Native.Nat.{ℕ, zero, suc, ◌+◌, ◌≤◌}
use Rattle.std.proofs.Math.IntN.{pos}
use Rattle.integer.specs.Below.{fold, or_else, first, Each}
use Rattle.integer.proofs.laws.BelowLaws.{first_cong, or_else-at, or_else-nothing, nothing-or_else}
use Rattle.integer.specs.Words.{word}
use Rattle.rulebook.specs.declared.Section.TheVariants.{Vesting, Meter, Residual, Ncc}
use Rattle.rulebook.specs.declared.Terms.{Terms}
use Rattle.rulebook.specs.Units.{last_day}
use Rattle.rulebook.specs.DayAmount.{settles_residual, residual_day}
use Rattle.rulebook.specs.Layout.{flag_word}
use Rattle.rulebook.specs.BookData.{terms_of, next_day}
use Rattle.rulebook.specs.WellFormed.{is_zero, well_formed}
use Rattle.rulebook.specs.Close.{absent_at, account_searched, residuals_searched, searched, absent_flag, missing_at, first_missing, settled, closed}
use Rattle.rulebook.specs.Numbers.{Answer, accepted, datum_absent, numbered, of_close}
use Rattle.rulebook.specs.SearchOrder.{in_turn, flags_at, flag_order, FirstZero, SearchHolds}
use Rattle.rulebook.proofs.laws.TestLaws.{T-path, is_zero_lem}
use Rattle.rulebook.proofs.laws.SearchLaws.{nothing-at, absent-here, absent-not, there}

-- ---- A search through a list

module _ (w : List ℤ) where
  unfoldable first_zero : List ℕ → Option ℕ
  first_zero [] = None
  first_zero (n ∷ ns) = or_else (absent_at w n) (first_zero ns)

  or_assoc : (x y z : Option ℕ) → or_else (or_else x y) z ≡ or_else x (or_else y z)
  unfolding or_else
  or_assoc (Some i) y z = refl
  or_assoc None y z = refl

  append_zero : (xs ys : List ℕ) → first_zero (xs ++ ys) ≡ or_else (first_zero xs) (first_zero ys)
  unfolding first_zero or_else
  append_zero [] ys = refl
  append_zero (x ∷ xs) ys = ap (or_else (absent_at w x)) (append_zero xs ys) ∙ sym (or_assoc (absent_at w x) (first_zero xs) (first_zero ys))

  turn-zero : (n : ℕ) (f : ℕ → List ℕ) → first_zero (in_turn n f) ≡ first n (λ i. first_zero (f i))
  unfolding fold first_zero
  turn-zero zero f = refl
  turn-zero (suc n) f = append_zero (in_turn n f) (f n) ∙ ap (λ (x : Option ℕ). or_else x (first_zero (f n))) (turn-zero n f)

  one_zero : (n : ℕ) → first_zero (n ∷ []) ≡ absent_at w n
  unfolding first_zero or_else
  one_zero n = go (absent_at w n)
    where
      go : (x : Option ℕ) → or_else x None ≡ x
      go (Some i) = refl
      go None = refl

  two-zero : (m n : ℕ) → first_zero (m ∷ n ∷ []) ≡ or_else (absent_at w m) (absent_at w n)
  unfolding first_zero
  two-zero m n = ap (or_else (absent_at w m)) (one_zero n)

  -- ---- What it finds

  not_zero : (n : ℕ) → absent_at w n ≡ None → word w n ≢ pos 0
  not_zero n e f = subst (λ (z : ℤ). T (not (is_zero z))) f (there w n e)

  zero-not : (n : ℕ) → word w n ≢ pos 0 → absent_at w n ≡ None
  zero-not n f = absent-not w n (go (is_zero (word w n)) (is_zero_lem (word w n)))
    where
      go : (b : Bool) → (T b → word w n ≡ pos 0) → b ≡ false
      go true x = absurd (f (x tt))
      go false x = refl

  at_zero : (n : ℕ) → word w n ≡ pos 0 → absent_at w n ≡ Some n
  at_zero n e = absent-here w n (rw e refl)

  zero-at : (n v : ℕ) → absent_at w n ≡ Some v → (n ≡ v) × (word w n ≡ pos 0)
  zero-at n v e = go (is_zero (word w n)) refl
    where
      go : (b : Bool) → is_zero (word w n) ≡ b → (n ≡ v) × (word w n ≡ pos 0)
      go true x = let h = absent-here w n x in (let z : n ≡ v = cc in z, is_zero_lem (word w n) (subst T (sym x) tt))
      go false x = nothing-at (absent-not w n x) e

  found_first : (flags : List ℕ) (v : ℕ) → first_zero flags ≡ Some v → FirstZero w flags v
  unfolding first_zero
  found_first [] v e = absurd (let z : ◌≡◌ {A = ℕ} 0 1 = cc in omega arith)
  found_first (n ∷ ns) v e = go (λ h. found_first ns v h) (or_else-at (absent_at w n) (first_zero ns) v e)
    where
      go : (first_zero ns ≡ Some v → FirstZero w ns v) → (absent_at w n ≡ Some v) ⊎ ((absent_at w n ≡ None) × (first_zero ns ≡ Some v)) → FirstZero w (n ∷ ns) v
      go ih (inl h) =
          let z = zero-at n v h in
          record { before = []; after = ns; order = ap (λ (m : ℕ). m ∷ ns) z.0; there = tt; absent = subst (λ (m : ℕ). word w m ≡ pos 0) z.0 z.1 }
      go ih (inr h) =
          let r = ih h.1 in
          record { before = n ∷ r.before; after = r.after; order = ap (λ (xs : List ℕ). n ∷ xs) r.order; there = (not_zero n h.0, r.there); absent = r.absent }

  skip : (before after : List ℕ) (v : ℕ) → Each (λ n. word w n ≢ pos 0) before → word w v ≡ pos 0 → first_zero (before ++ (v ∷ after)) ≡ Some v
  unfolding first_zero or_else
  skip [] after v t e = ap (λ (x : Option ℕ). or_else x (first_zero after)) (at_zero v e)
  skip (n ∷ before) after v t e = ap (λ (x : Option ℕ). or_else x (first_zero (before ++ (v ∷ after)))) (zero-not n t.0) ∙ skip before after v t.1 e

  first_found : (flags : List ℕ) (v : ℕ) → FirstZero w flags v → first_zero flags ≡ Some v
  first_found flags v r = ap first_zero r.order ∙ skip r.before r.after v r.there r.absent

  none_zero : (flags : List ℕ) → first_zero flags ≡ None → Each (λ n. word w n ≢ pos 0) flags
  unfolding first_zero
  none_zero [] e = tt
  none_zero (n ∷ ns) e = let x = or_else-nothing (absent_at w n) (first_zero ns) e in (not_zero n x.0, none_zero ns x.1)

  zero-none : (flags : List ℕ) → Each (λ n. word w n ≢ pos 0) flags → first_zero flags ≡ None
  unfolding first_zero
  zero-none [] t = refl
  zero-none (n ∷ ns) t = nothing-or_else (absent_at w n) (first_zero ns) (zero-not n t.0) (zero-none ns t.1)

-- ---- The close's search

module _ (o : Terms) (w : List ℤ) (D : ℕ) where
  missing-zero : (i : ℕ) → missing_at o w D i ≡ first_zero w (flags_at o D i)
  unfolding missing_at searched flags_at
  missing-zero i = sym (append_zero w _ _ ∙ ap (λ (x : Option ℕ). or_else x (first_zero w (older (settles_residual o D)))) vested ∙ ap (or_else _) (later (settles_residual o D)))
    where
      older : Bool → List ℕ
      older b = cond b (flag_word o Ncc 0 (residual_day o D) i ∷ in_turn o.accounts (λ a. flag_word o Residual a (residual_day o D) i ∷ [])) []

      vested : first_zero w (in_turn o.accounts (λ a. flag_word o Vesting a D i ∷ flag_word o Meter a D i ∷ [])) ≡ first o.accounts (account_searched (absent_flag o w D i))
      vested = turn-zero w o.accounts _ ∙ first_cong o.accounts _ _ (λ a h. two-zero w (flag_word o Vesting a D i) (flag_word o Meter a D i))

      later : (b : Bool) → first_zero w (older b) ≡ cond b (residuals_searched o.accounts (absent_flag o w D i)) None
      later true = unfold first_zero in
          ap (or_else (absent_at w (flag_word o Ncc 0 (residual_day o D) i))) (turn-zero w o.accounts _
          ∙ first_cong o.accounts _ _ (λ a h. one_zero w (flag_word o Residual a (residual_day o D) i)))
      later false = unfold first_zero in refl

  search-order : first_missing o w D ≡ first_zero w (flag_order o D)
  unfolding first_missing flag_order
  search-order = first_cong 48 (missing_at o w D) (λ i. first_zero w (flags_at o D i)) (λ i h. missing-zero i) ∙ sym (turn-zero w 48 (flags_at o D))

  pub missing-first : (v : ℕ) → first_missing o w D ≡ Some v → FirstZero w (flag_order o D) v
  missing-first v e = found_first w (flag_order o D) v (sym search-order ∙ e)

  pub first-missing : (v : ℕ) → FirstZero w (flag_order o D) v → first_missing o w D ≡ Some v
  first-missing v r = search-order ∙ first_found w (flag_order o D) v r

  pub missing-none : first_missing o w D ≡ None → Each (λ n. word w n ≢ pos 0) (flag_order o D)
  missing-none e = none_zero w (flag_order o D) (sym search-order ∙ e)

  pub none_missing : Each (λ n. word w n ≢ pos 0) (flag_order o D) → first_missing o w D ≡ None
  none_missing t = search-order ∙ zero-none w (flag_order o D) t

-- a close that is neither refused as ill formed, nor finished, nor without room goes by the search
by_search : (w statement : List ℤ) → T (well_formed w) → next_day w ≤ last_day → (terms_of w).accounts + 1 ≤ length statement
    → closed w statement ≡ settled (terms_of w) w (next_day w) statement (first_missing (terms_of w) w (next_day w))
unfolding closed
by_search w statement t left room = rw (T-path (well_formed w) t, le-ltb last_day (next_day w) left, le-ltb (length statement) ((terms_of w).accounts + 1) room)

pub search-holds : SearchHolds
search-holds w statement t left room = record {
  missing = λ v. rw (by_search w statement t left room) (λ e. missing-first (terms_of w) w (next_day w) v (at v (first_missing (terms_of w) w (next_day w)) e), λ r. rw (first-missing (terms_of w) w (next_day w) v r) (absent v));
  complete = rw (by_search w statement t left room) (λ e. missing-none (terms_of w) w (next_day w) (none (first_missing (terms_of w) w (next_day w)) e), λ r. rw (none_missing (terms_of w) w (next_day w) r) (unfold settled in refl));
}
  where
    absent : (v : ℕ) → of_close (settled (terms_of w) w (next_day w) statement (Some v)).answer ≡ numbered datum_absent v
    absent v = unfold settled in refl

    at : (v : ℕ) (x : Option ℕ) → of_close (settled (terms_of w) w (next_day w) statement x).answer ≡ numbered datum_absent v → x ≡ Some v
    at v (Some n) e = unfold settled in let z : n ≡ v = ap (λ (y : Answer). y.position) e in ap Some z
    at v None e = unfold settled in absurd (let z : ◌≡◌ {A = ℕ} 0 11 = ap (λ (y : Answer). y.number) e in omega arith)

    none : (x : Option ℕ) → (of_close (settled (terms_of w) w (next_day w) statement x).answer).number ≡ accepted → x ≡ None
    none (Some n) e = unfold settled in absurd (omega arith)
    none None e = refl
