-- The ring: each slot is of exactly one place in the window of L + H days from C − L on. Assumes nothing.
use Rattle.std.specs.Prelude.{◌≡◌, ℕ, zero, ◌+◌, ◌-◌, ◌%◌, ◌≤◌, ◌<◌}
use Rattle.std.proofs.Math.Path.{ap}
use Rattle.std.proofs.Common.{◌∙◌, sym, mod-eq_of_lt}
use Rattle.std.proofs.Math.Nat.{add-mod_right, mod-lt, add-mod-mod, mod-add-mod}
use native.Mathlib.Omega.{arith}
use Rattle.rulebook.specs.declared.Terms.{Terms}
use Rattle.rulebook.specs.Layout.{ring, slot, InWindow}
use Rattle.rulebook.specs.WindowWalk.{window_slot, window_place}
use Rattle.rulebook.proofs.laws.LayoutLaws.{window-apart}

pub ring-some : (o : Terms) → 1 ≤ o.horizon → zero < ring o
unfolding ring
ring-some o h = omega arith

module _ (o : Terms) where
  module _ (p : zero < ring o) (k : ℕ) where
    pub turn_inside : (v : ℕ) → window_place o k v < ring o
    unfolding window_place
    turn_inside v = mod-lt _ p

    pub turned : (v : ℕ) → v < ring o → window_slot o k (window_place o k v) ≡ v
    unfolding window_slot window_place
    turned v hv =
        let c = mod-lt (k + o.horizon) p in
        let e : k + (v + (ring o - (k + o.horizon) % ring o)) % ring o + o.horizon ≡ (k + o.horizon) + (v + (ring o - (k + o.horizon) % ring o)) % ring o = omega arith in
        let f : (k + o.horizon) % ring o + (v + (ring o - (k + o.horizon) % ring o)) ≡ v + ring o = omega arith in
        rw (e, add-mod-mod (k + o.horizon) (v + (ring o - (k + o.horizon) % ring o)) (ring o), ← (mod-add-mod (k + o.horizon) (ring o) (v + (ring o - (k + o.horizon) % ring o))), f, add-mod_right v (ring o)) (mod-eq_of_lt hv)

    -- two places of the window share no slot
    pub places-apart : (u u' : ℕ) → u < ring o → u' < ring o → window_slot o k u ≡ window_slot o k u' → u ≡ u'
    unfolding window_slot
    places-apart u u' h h' e =
        let x : k + u + o.horizon ≡ (k + o.horizon) + u = omega arith in
        let x' : k + u' + o.horizon ≡ (k + o.horizon) + u' = omega arith in
        window-apart (k + o.horizon) h h' (ap (λ (n : ℕ). n % ring o) (sym x) ∙ e ∙ ap (λ (n : ℕ). n % ring o) x')

    -- every slot is of exactly one place
    pub slot-once : (v : ℕ) → v < ring o → (u : ℕ) × (u < ring o) × (window_slot o k u ≡ v) × ((u' : ℕ) → u' < ring o → window_slot o k u' ≡ v → u' ≡ u)
    slot-once v hv = (window_place o k v, turn_inside v, turned v hv, λ u' h e. places-apart u' (window_place o k v) h (turn_inside v) (e ∙ sym (turned v hv)))

  -- the day of a place, and the place of a day
  module _ (k : ℕ) where
    pub place-slot : (u : ℕ) → u < ring o → o.lag ≤ k + u → window_slot o k u ≡ slot o (o.first + (k + u - o.lag))
    unfolding window_slot slot ring
    place-slot u h late =
        let e : k + u + o.horizon ≡ (o.first + (k + u - o.lag) - o.first) + (o.lag + o.horizon) = omega arith in
        rw e (add-mod_right (o.first + (k + u - o.lag) - o.first) (o.lag + o.horizon))

    pub place-day : (u : ℕ) → u < ring o → o.lag ≤ k + u → InWindow o k (o.first + (k + u - o.lag))
    unfolding ring
    place-day u h late = omega arith

    unfoldable pub place_of_day : ℕ → ℕ
    place_of_day d = d + o.lag - (o.first + k)

    pub record DayPlace (d : ℕ) : Type 0 where
      pub inside : place_of_day d < ring o
      pub late : o.lag ≤ k + place_of_day d
      pub back : o.first + (k + place_of_day d - o.lag) ≡ d
      pub slot_is : window_slot o k (place_of_day d) ≡ slot o d
      pub open_is : (place_of_day d < o.lag → d < o.first + k) × (d < o.first + k → place_of_day d < o.lag)

    pub day-place : (d : ℕ) → InWindow o k d → DayPlace d
    unfolding ring place_of_day window_slot slot
    day-place d h =
        let e : k + (d + o.lag - (o.first + k)) + o.horizon ≡ (d - o.first) + (o.lag + o.horizon) = omega arith in
        record {
          inside = omega arith;
          late = omega arith;
          back = omega arith;
          slot_is = rw e (add-mod_right (d - o.first) (o.lag + o.horizon));
          open_is = (λ x. omega arith, λ x. omega arith);
        }
