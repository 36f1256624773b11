-- The slots as they lie are the days of the window: each slot has one place in the window, and each place one slot. Assumes nothing.
use Rattle.std.specs.Prelude.{◌≡◌, refl, List, ℕ, ◌+◌, ◌*◌, ◌≤◌, ◌<◌, T, ltb, ℤ, length}
use Rattle.std.proofs.Math.Path.{sym}
use Rattle.std.proofs.Common.{◌∙◌, subst, mul_assoc, mul_comm, arith}
use Rattle.std.proofs.Math.Nat.{mod-lt}
use Rattle.integer.specs.Below.{all}
use Rattle.integer.specs.Words.{word, part}
use Rattle.integer.proofs.laws.WordsLaws.{row_fits_lem, length_part}
use Rattle.rulebook.specs.declared.Terms.{Terms}
use Rattle.rulebook.specs.Units.{intervals}
use Rattle.rulebook.specs.Layout.{balance_word, interval_length, slot_length, interval_size, ring, base, size}
use Rattle.rulebook.proofs.laws.TestLaws.{all_same, all_yes, all_at, tests_same}
use Rattle.rulebook.specs.WindowWalk.{window_slot, window_place, place_dated, window_slot_fits}
use Rattle.rulebook.proofs.laws.RingLaws.{ring-some, turn_inside, turned, places-apart}
use Rattle.rulebook.proofs.laws.WalkLaws.{days-are_places}
use Rattle.rulebook.specs.WellFormed.{days_fit}
use Rattle.opening.proofs.laws.LoopLaws.{word-part}
use Rattle.book.specs.Parts.{slot_fits}
use Rattle.book.specs.Slots.{slots_fit}
use Rattle.book.proofs.laws.SlotLaws.{slot_is}

-- the slots lie from base on to the size
pub base-is : (o : Terms) → base o ≡ balance_word o.accounts
unfolding base
base-is o = refl

pub size-by_slots : (o : Terms) → size o ≡ balance_word o.accounts + ring o * slot_length o.accounts
unfolding size base interval_size
size-by_slots o = rw (mul_comm intervals (ring o), mul_assoc (ring o) intervals (interval_length o.accounts))

module _ (o : Terms) (w : List ℤ) (k : ℕ) (p : 1 ≤ o.horizon) where
  -- place by place is slot by slot
  slots-are_places : all (ring o) (window_slot_fits o w k) ≡ all (ring o) (λ v. window_slot_fits o w k (window_place o k v))
  slots-are_places = tests_same _ _
      (λ t. all_yes (ring o) (λ v. window_slot_fits o w k (window_place o k v)) (λ v h. all_at (ring o) (window_slot_fits o w k) t (window_place o k v) (turn_inside o (ring-some o p) k v)))
      (λ t. all_yes (ring o) (window_slot_fits o w k) (λ u h.
      subst (λ (x : ℕ). T (window_slot_fits o w k x)) (back u h) (all_at (ring o) (λ v. window_slot_fits o w k (window_place o k v)) t (window_slot o k u) (slot-inside u))))
    where
      slot-inside : (u : ℕ) → window_slot o k u < ring o
      slot-inside u = unfold window_slot in mod-lt _ (ring-some o p)

      back : (u : ℕ) → u < ring o → window_place o k (window_slot o k u) ≡ u
      back u h = places-apart o (ring-some o p) k (window_place o k (window_slot o k u)) u (turn_inside o (ring-some o p) k (window_slot o k u)) h (turned o (ring-some o p) k (window_slot o k u) (slot-inside u))

  module _ (l : size o ≤ length w) where
    abbrev slots : List ℤ
    slots = part w (balance_word o.accounts) (ring o * slot_length o.accounts)

    slot-words : (v : ℕ) → v < ring o → (m : ℕ) → m < slot_length o.accounts
        → word (part slots (v * slot_length o.accounts) (slot_length o.accounts)) m ≡ word w (base o + (v * slot_length o.accounts + m))
    slot-words v hv m hm =
        rw (base-is o)
        (word-part slots (v * slot_length o.accounts) (slot_length o.accounts) m hm
        ∙ word-part w (balance_word o.accounts) (ring o * slot_length o.accounts) (v * slot_length o.accounts + m) (omega (arith, row_fits_lem v (ring o) (slot_length o.accounts) hv)))

    slot-long : (v : ℕ) → v < ring o → length (part slots (v * slot_length o.accounts) (slot_length o.accounts)) ≡ slot_length o.accounts
    slot-long v hv =
        let e = length_part w (balance_word o.accounts) (ring o * slot_length o.accounts) (omega (arith, size-by_slots o)) in
        length_part slots (v * slot_length o.accounts) (slot_length o.accounts) (omega (arith, row_fits_lem v (ring o) (slot_length o.accounts) hv))

    slot_at : (v : ℕ) → v < ring o
        → slot_fits o.accounts (place_dated o k (window_place o k v)) (ltb (window_place o k v) o.lag) (part slots (v * slot_length o.accounts) (slot_length o.accounts)) ≡ window_slot_fits o w k (window_place o k v)
    unfolding window_slot_fits
    slot_at v hv = rw (turned o (ring-some o p) k v hv)
        (slot_is o w v (part slots (v * slot_length o.accounts) (slot_length o.accounts)) (slot-words v hv) (slot-long v hv) (place_dated o k (window_place o k v)) (ltb (window_place o k v) o.lag))

    -- the slots of the book fit exactly if its days do
    pub slots-are_days : slots_fit o k slots ≡ days_fit o w (o.first + k)
    unfolding slots_fit
    slots-are_days = all_same (ring o) _ _ slot_at ∙ sym slots-are_places ∙ sym (days-are_places o w k p)
