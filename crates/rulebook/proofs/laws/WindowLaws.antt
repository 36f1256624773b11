-- The ring by days: two days of the window share no slot, and every slot is of exactly one day of the window or of none. Assumes nothing.
use Rattle.std.specs.Prelude.{◌≡◌, ◌⊎◌, true, ◌||◌, List, ℕ, ◌+◌, ◌-◌, ◌≤◌, ◌<◌, ℤ}
use Rattle.std.proofs.Common.{sym, ◌∙◌, inl, inr, eqb→eq}
use Rattle.std.proofs.Math.Path.{subst}
use Rattle.std.proofs.Math.Bool.{false}
use native.Mathlib.Omega.{arith}
use Rattle.std.proofs.Math.Decide.{dec_le}
use Rattle.std.proofs.Math.Dec.{T, eqb, eqb_refl}
use Rattle.integer.specs.Below.{all}
use Rattle.integer.proofs.laws.BelowLaws.{either}
use Rattle.rulebook.specs.declared.Terms.{Terms}
use Rattle.rulebook.specs.Units.{last_day}
use Rattle.rulebook.specs.Layout.{ring, slot, window_from, window_days, InWindow}
use Rattle.rulebook.specs.WellFormed.{slot_blank, day_fits, is_dated, days_fit}
use Rattle.rulebook.specs.FormedBook.{WindowDay, SlotDay, of_day, of_none}
use Rattle.rulebook.specs.WindowWalk.{window_place}
use Rattle.rulebook.proofs.laws.TestLaws.{and_left, and_right, and_both, or_left, or_right, or_cases, all_yes, any-yes, all_at, any_some}
use Rattle.rulebook.proofs.laws.LayoutLaws.{days-apart}
use Rattle.rulebook.proofs.laws.RingLaws.{ring-some, turn_inside, turned, places-apart, place-slot, place-day, place_of_day, day-place}

module _ (o : Terms) (C : ℕ) (horizon : 1 ≤ o.horizon) (begun : o.first ≤ C) where
  k : ℕ
  k = C - o.first

  in_window : (d : ℕ) → WindowDay o C d → InWindow o k d
  unfolding k
  in_window d h = record { begun = omega (arith, h.from); kept = omega (arith, h.from); ahead = omega (arith, h.to) }

  window-day : (d : ℕ) → InWindow o k d → d ≤ last_day → WindowDay o C d
  unfolding k
  window-day d h l = record { from = omega (arith, h.begun, h.kept); to = omega (arith, h.ahead) }

  pub window-days_apart : (d d' : ℕ) → WindowDay o C d → WindowDay o C d' → slot o d ≡ slot o d' → d ≡ d'
  window-days_apart d d' h h' e = days-apart o k d d' (in_window d h) (in_window d' h') e

  pub slot-day : (v : ℕ) → v < ring o → SlotDay o C v
  slot-day v h = go (dec_le o.lag (k + u)) (dec_le (o.first + (k + u - o.lag)) last_day)
    where
      u : ℕ
      u = window_place o k v

      inside : window_place o k v < ring o
      inside = turn_inside o (ring-some o horizon) k v

      -- a day with this slot has this place
      same_place : (d' : ℕ) → WindowDay o C d' → slot o d' ≡ v → place_of_day o k d' ≡ window_place o k v
      same_place d' h' e =
          let z = day-place o k d' (in_window d' h') in
          places-apart o (ring-some o horizon) k (place_of_day o k d') (window_place o k v) z.inside inside (z.slot_is ∙ e ∙ sym (turned o (ring-some o horizon) k v h))

      go : Dec (o.lag ≤ k + window_place o k v) → Dec (o.first + (k + window_place o k v - o.lag) ≤ last_day) → SlotDay o C v
      go (yes a) (yes b) =
          let w = window-day (o.first + (k + window_place o k v - o.lag)) (place-day o k (window_place o k v) inside a) b in
          let s : slot o (o.first + (k + window_place o k v - o.lag)) ≡ v = sym (place-slot o k (window_place o k v) inside a) ∙ turned o (ring-some o horizon) k v h in
          of_day (o.first + (k + window_place o k v - o.lag)) w s (λ d' h' e. window-days_apart d' (o.first + (k + window_place o k v - o.lag)) h' w (e ∙ sym s))
      go (no a) b = of_none (λ d' h' e. let z = (day-place o k d' (in_window d' h')).late in a (omega (arith, same_place d' h' e)))
      go (yes a) (no b) = of_none (λ d' h' e.
          let z = (day-place o k d' (in_window d' h')).back in
          let l : d' ≤ last_day = omega (arith, h'.to) in
          b (rw (← (same_place d' h' e)) (rw z l)))

-- ---- Well formed by days

-- each day of the window has a fitting slot, and every slot of none of them is blank
pub record DaysFit (o : Terms) (w : List ℤ) (C : ℕ) : Type 0 where
  pub each : (d : ℕ) → WindowDay o C d → T (day_fits o w C d)
  pub others : (v : ℕ) → v < ring o → ((d : ℕ) → WindowDay o C d → slot o d ≡ v → ⊥) → T (slot_blank o w v)

module _ (o : Terms) (w : List ℤ) (C : ℕ) where
  pub days-fit_say : T (days_fit o w C) → DaysFit o w C
  unfolding days_fit is_dated
  days-fit_say t = record {
    each = λ d h.
        let e : window_from o C + (d - window_from o C) ≡ d = omega (arith, h.from) in
        subst (λ (y : ℕ). T (day_fits o w C y)) e (all_at (window_days o C) (λ i. day_fits o w C (window_from o C + i)) (and_left (all (window_days o C) (λ i. day_fits o w C (window_from o C + i))) (all (ring o) (λ v. is_dated o C v || slot_blank o w v)) t) (d - window_from o C) (omega (arith, h.from, h.to)));
    others = λ v h none. or_cases (is_dated o C v) (slot_blank o w v) (all_at (ring o) (λ v. is_dated o C v || slot_blank o w v) (and_right (all (window_days o C) (λ i. day_fits o w C (window_from o C + i))) (all (ring o) (λ v. is_dated o C v || slot_blank o w v)) t) v h)
        (λ x. let i = any_some (window_days o C) (λ i. eqb (slot o (window_from o C + i)) v) x in
        absurd (none (window_from o C + i.0) (record { from = omega arith; to = omega (arith, i.1) }) (eqb→eq (slot o (window_from o C + i.0)) v i.2))) (λ x. x);
  }

  pub say_days_fit : DaysFit o w C → T (days_fit o w C)
  unfolding days_fit is_dated
  say_days_fit h = and_both (all (window_days o C) (λ i. day_fits o w C (window_from o C + i))) (all (ring o) (λ v. is_dated o C v || slot_blank o w v))
      (all_yes (window_days o C) (λ i. day_fits o w C (window_from o C + i)) (λ i l. h.each (window_from o C + i) (record { from = omega arith; to = omega arith })))
      (all_yes (ring o) (λ v. is_dated o C v || slot_blank o w v) (λ v l. go v l (either (is_dated o C v))))
    where
      undated : (v : ℕ) → is_dated o C v ≡ false → (d : ℕ) → WindowDay o C d → slot o d ≡ v → ⊥
      undated v e d x s =
          let q : window_from o C + (d - window_from o C) ≡ d = omega (arith, x.from) in
          subst T e (any-yes (window_days o C) (λ i. eqb (slot o (window_from o C + i)) v) (d - window_from o C) (omega (arith, x.from, x.to))
          (subst (λ (y : ℕ). T (eqb (slot o y) v)) (sym q) (subst (λ (y : ℕ). T (eqb (slot o d) y)) s (eqb_refl (slot o d)))))

      go : (v : ℕ) → v < ring o → (is_dated o C v ≡ true) ⊎ (is_dated o C v ≡ false) → T (is_dated o C v || slot_blank o w v)
      go v l (inl e) = or_left (is_dated o C v) (slot_blank o w v) (subst T (sym e) tt)
      go v l (inr e) = or_right (is_dated o C v) (slot_blank o w v) (h.others v l (undated v e))
