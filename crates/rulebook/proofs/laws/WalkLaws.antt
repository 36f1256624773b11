-- Well formed by days is well formed place by place: each day of the window has its place, and a place of no day a slot of no day. Assumes nothing.
use Rattle.std.specs.Prelude.{◌≡◌, ◌⊎◌, Bool, true, false, cond, not, ◌||◌, List, leb, ℤ}
use Rattle.std.proofs.Math.Path.{refl, subst}
use Rattle.std.proofs.Common.{sym, ◌∙◌, inl, inr, ltb→lt, eqb→eq}
use Rattle.std.proofs.Math.Logic.{⊎_elim}
use Rattle.std.proofs.Math.Bool.{and-false}
use Prim.Native.Nat.{ℕ, ◌+◌, ◌-◌, ◌≤◌, ◌<◌}
use Rattle.std.proofs.Math.Nat.{mod-lt}
use native.Mathlib.Omega.{arith}
use borrow.Author.Tests.{le-leb, lt-leb}
use Rattle.std.proofs.Math.Dec.{T, ltb, eqb, leb→le, lt→ltb, eqb_refl}
use Rattle.integer.specs.Below.{all}
use Rattle.integer.proofs.laws.BelowLaws.{lt_or_le}
use Rattle.rulebook.specs.declared.Terms.{Terms}
use Rattle.rulebook.specs.Units.{last_day}
use Rattle.rulebook.specs.Layout.{ring, slot, window_from, window_days, InWindow}
use Rattle.rulebook.specs.WellFormed.{slot_blank, dated_fits, day_fits, is_dated, days_fit}
use Rattle.rulebook.specs.WindowWalk.{window_slot, window_place, place_dated, window_slot_fits}
use Rattle.rulebook.proofs.laws.TestLaws.{and_left, and_right, and_both, or_left, or_right, or_cases, cond_yes, all_yes, any-yes, all_at, any_some, tests_same}
use Rattle.rulebook.proofs.laws.RingLaws.{ring-some, turn_inside, turned, places-apart, place-slot, place-day, place_of_day, day-place}

-- ---- One place

-- of a day; of none, before F or past the last
module _ (o : Terms) (k u : ℕ) where
  pub place-dated : o.lag ≤ k + u → o.first + (k + u - o.lag) ≤ last_day → place_dated o k u ≡ true
  unfolding place_dated
  place-dated h l = rw (le-leb o.lag (k + u) h, le-leb (o.first + (k + u - o.lag)) last_day l)

  pub place-early : k + u < o.lag → place_dated o k u ≡ false
  unfolding place_dated
  place-early h = rw (lt-leb o.lag (k + u) h)

  pub place-late : last_day < o.first + (k + u - o.lag) → place_dated o k u ≡ false
  unfolding place_dated
  place-late h = rw (lt-leb (o.first + (k + u - o.lag)) last_day h) (and-false (leb o.lag (k + u)))

  pub dated-says : T (place_dated o k u) → (o.lag ≤ k + u) × (o.first + (k + u - o.lag) ≤ last_day)
  unfolding place_dated
  dated-says t = (
    leb→le o.lag (k + u) (and_left (leb o.lag (k + u)) (leb (o.first + (k + u - o.lag)) last_day) t),
    leb→le (o.first + (k + u - o.lag)) last_day (and_right (leb o.lag (k + u)) (leb (o.first + (k + u - o.lag)) last_day) t),
  )

  pub undated-says : T (not (place_dated o k u)) → (k + u < o.lag) ⊎ ((o.lag ≤ k + u) × (last_day < o.first + (k + u - o.lag)))
  undated-says t = ⊎_elim inl
      (λ h. ⊎_elim (λ l. inr (h, l)) (λ l. absurd (subst (λ (b : Bool). T (not b)) (place-dated h l) t)) (lt_or_le last_day (o.first + (k + u - o.lag))))
      (lt_or_le (k + u) o.lag)

module _ (o : Terms) (w : List ℤ) (k u : ℕ) where
  pub early-place : k + u < o.lag → T (window_slot_fits o w k u) → T (slot_blank o w (window_slot o k u))
  unfolding window_slot_fits
  early-place h t = rw (place-early o k u h) at t

  late-place : last_day < o.first + (k + u - o.lag) → T (window_slot_fits o w k u) → T (slot_blank o w (window_slot o k u))
  unfolding window_slot_fits
  late-place h t = rw (place-late o k u h) at t

  dated-place : o.lag ≤ k + u → o.first + (k + u - o.lag) ≤ last_day → T (window_slot_fits o w k u) → T (dated_fits o w (ltb u o.lag) (window_slot o k u))
  unfolding window_slot_fits
  dated-place h l t = rw (place-dated o k u h l) at t

  -- a day fits exactly if its place does
  day-is_place : (d : ℕ) → window_slot o k u ≡ slot o d → (u < o.lag → d < o.first + k) → (d < o.first + k → u < o.lag)
      → day_fits o w (o.first + k) d ≡ dated_fits o w (ltb u o.lag) (window_slot o k u)
  unfolding day_fits
  day-is_place d e f g =
      let c : ltb d (o.first + k) ≡ ltb u o.lag
      = tests_same (ltb d (o.first + k)) (ltb u o.lag) (λ x. lt→ltb u o.lag (g (ltb→lt d (o.first + k) x))) (λ x. lt→ltb d (o.first + k) (f (ltb→lt u o.lag x))) in
      rw (c, e)

-- a day of the window, by the walk over its places
module _ (o : Terms) (w : List ℤ) (k : ℕ) (t : T (all (ring o) (window_slot_fits o w k))) (d : ℕ) (hd : InWindow o k d) where
  place-test : T (window_slot_fits o w k (place_of_day o k d))
  place-test = all_at (ring o) (window_slot_fits o w k) t (place_of_day o k d) (day-place o k d hd).inside

  pub walk-day : d ≤ last_day → T (day_fits o w (o.first + k) d)
  walk-day l =
      let z = day-place o k d hd in
      rw (day-is_place o w k (place_of_day o k d) d z.slot_is z.open_is.0 z.open_is.1) (dated-place o w k (place_of_day o k d) z.late (rw z.back l) place-test)

  pub walk-undated : last_day < d → T (slot_blank o w (slot o d))
  walk-undated l = let z = day-place o k d hd in subst (λ (v : ℕ). T (slot_blank o w v)) z.slot_is (late-place o w k (place_of_day o k d) (rw z.back l) place-test)

module _ (o : Terms) (w : List ℤ) (k : ℕ) (p : 1 ≤ o.horizon) where
  -- day i of the window
  window-day : (i : ℕ) → i < window_days o (o.first + k) → InWindow o k (window_from o (o.first + k) + i)
  window-day i h = omega arith

  window-dated : (i : ℕ) → i < window_days o (o.first + k) → window_from o (o.first + k) + i ≤ last_day
  window-dated i h = omega arith

  -- which day of the window
  index_of : ℕ → ℕ
  index_of d = d - window_from o (o.first + k)

  index-inside : (d : ℕ) → InWindow o k d → d ≤ last_day → index_of d < window_days o (o.first + k)
  unfolding index_of
  index-inside d h l = omega arith

  index-day : (d : ℕ) → InWindow o k d → window_from o (o.first + k) + index_of d ≡ d
  unfolding index_of
  index-day d h = omega arith

  -- ---- From days to places

  module _ (t : T (days_fit o w (o.first + k))) where
    each_day : (i : ℕ) → i < window_days o (o.first + k) → T (day_fits o w (o.first + k) (window_from o (o.first + k) + i))
    unfolding days_fit
    each_day i h = all_at (window_days o (o.first + k)) (λ i. day_fits o w (o.first + k) (window_from o (o.first + k) + i)) (and_left (all (window_days o (o.first + k)) (λ i. day_fits o w (o.first + k) (window_from o (o.first + k) + i))) (all (ring o) (λ v. is_dated o (o.first + k) v || slot_blank o w v)) t) i h

    each_slot : (v : ℕ) → v < ring o → T (is_dated o (o.first + k) v || slot_blank o w v)
    unfolding days_fit
    each_slot v h = all_at (ring o) (λ v. is_dated o (o.first + k) v || slot_blank o w v) (and_right (all (window_days o (o.first + k)) (λ i. day_fits o w (o.first + k) (window_from o (o.first + k) + i))) (all (ring o) (λ v. is_dated o (o.first + k) v || slot_blank o w v)) t) v h

    -- a place of no day has a slot of no day
    undated : (u : ℕ) → u < ring o → ((d : ℕ) → InWindow o k d → d ≤ last_day → place_of_day o k d ≡ u → ⊥) → T (slot_blank o w (window_slot o k u))
    unfolding is_dated
    undated u h none = or_cases (is_dated o (o.first + k) (window_slot o k u)) (slot_blank o w (window_slot o k u)) (each_slot (window_slot o k u) slot-inside)
        (λ x. let i = any_some (window_days o (o.first + k)) (λ i. eqb (slot o (window_from o (o.first + k) + i)) (window_slot o k u)) x in
        absurd (shared i.0 i.1 (eqb→eq (slot o (window_from o (o.first + k) + i.0)) (window_slot o k u) i.2))) (λ x. x)
      where
        slot-inside : window_slot o k u < ring o
        slot-inside = unfold window_slot in mod-lt _ (ring-some o p)

        shared : (i : ℕ) → i < window_days o (o.first + k) → slot o (window_from o (o.first + k) + i) ≡ window_slot o k u → ⊥
        shared i hi e =
            let d : ℕ = window_from o (o.first + k) + i in
            let z = day-place o k (window_from o (o.first + k) + i) (window-day i hi) in
            none d (window-day i hi) (window-dated i hi) (places-apart o (ring-some o p) k (place_of_day o k d) u z.inside h (z.slot_is ∙ e))

    place-fits : (u : ℕ) → u < ring o → T (window_slot_fits o w k u)
    unfolding window_slot_fits place_of_day
    place-fits u h = cond_yes (place_dated o k u) (dated_fits o w (ltb u o.lag) (window_slot o k u)) (slot_blank o w (window_slot o k u))
        (λ x. let a = (dated-says o k u x).0 in
        let z = place-day o k u h a in
        let d : ℕ = o.first + (k + u - o.lag) in
        subst T (day-is_place o w k u d (place-slot o k u h a) (λ y. omega arith) (λ y. omega arith))
        (subst (λ (d : ℕ). T (day_fits o w (o.first + k) d)) (index-day d z) (each_day (index_of d) (index-inside d z (dated-says o k u x).1))))
        (λ x. ⊎_elim (λ y. undated u h (λ d z l q. omega arith)) (λ y. undated u h (λ d z l q. omega arith)) (undated-says o k u x))

  pub days-walk : T (days_fit o w (o.first + k)) → T (all (ring o) (window_slot_fits o w k))
  days-walk t = all_yes (ring o) (window_slot_fits o w k) (place-fits t)

  -- ---- From places to days

  module _ (t : T (all (ring o) (window_slot_fits o w k))) where
    slot-fits : (v : ℕ) → v < ring o → T (is_dated o (o.first + k) v || slot_blank o w v)
    unfolding window_slot_fits is_dated
    slot-fits v h = subst (λ (x : ℕ). T (is_dated o (o.first + k) x || slot_blank o w x)) (turned o (ring-some o p) k v h)
        (go (place_dated o k (window_place o k v)) refl (all_at (ring o) (window_slot_fits o w k) t (window_place o k v) inside))
      where
        inside : window_place o k v < ring o
        inside = turn_inside o (ring-some o p) k v

        dated : o.lag ≤ k + window_place o k v → o.first + (k + window_place o k v - o.lag) ≤ last_day → T (is_dated o (o.first + k) (window_slot o k (window_place o k v)))
        dated a b =
            let d : ℕ = o.first + (k + window_place o k v - o.lag) in
            let z = place-day o k (window_place o k v) inside a in
            any-yes (window_days o (o.first + k)) (λ i. eqb (slot o (window_from o (o.first + k) + i)) (window_slot o k (window_place o k v))) (index_of d) (index-inside d z b)
            (subst (λ (y : ℕ). T (eqb (slot o y) (window_slot o k (window_place o k v)))) (sym (index-day d z))
            (subst (λ (y : ℕ). T (eqb y (window_slot o k (window_place o k v)))) (place-slot o k (window_place o k v) inside a) (eqb_refl (window_slot o k (window_place o k v)))))

        go : (b : Bool) → place_dated o k (window_place o k v) ≡ b
            → T (cond b (dated_fits o w (ltb (window_place o k v) o.lag) (window_slot o k (window_place o k v))) (slot_blank o w (window_slot o k (window_place o k v))))
            → T (is_dated o (o.first + k) (window_slot o k (window_place o k v)) || slot_blank o w (window_slot o k (window_place o k v)))
        go true e x = let n = dated-says o k (window_place o k v) (subst T (sym e) tt) in
            or_left (is_dated o (o.first + k) (window_slot o k (window_place o k v))) (slot_blank o w (window_slot o k (window_place o k v))) (dated n.0 n.1)
        go false e x = or_right (is_dated o (o.first + k) (window_slot o k (window_place o k v))) _ x

    pub walk-days : T (days_fit o w (o.first + k))
    unfolding days_fit
    walk-days = and_both (all (window_days o (o.first + k)) (λ i. day_fits o w (o.first + k) (window_from o (o.first + k) + i))) (all (ring o) (λ v. is_dated o (o.first + k) v || slot_blank o w v))
        (all_yes (window_days o (o.first + k)) (λ i. day_fits o w (o.first + k) (window_from o (o.first + k) + i)) (λ i h. walk-day o w k t (window_from o (o.first + k) + i) (window-day i h) (window-dated i h)))
        (all_yes (ring o) (λ v. is_dated o (o.first + k) v || slot_blank o w v) slot-fits)

  -- the two are one test
  pub days-are_places : days_fit o w (o.first + k) ≡ all (ring o) (window_slot_fits o w k)
  days-are_places = tests_same (days_fit o w (o.first + k)) (all (ring o) (window_slot_fits o w k)) days-walk walk-days
