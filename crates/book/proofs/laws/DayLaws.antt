-- A slot by its day is a slot by its two tests. Assumes nothing.
use Rattle.std.specs.Prelude.{◌≡◌, refl, Bool, true, false, cond, List, ℕ, ℤ, ltb, Some, None, Option}
use Rattle.integer.specs.Below.{all}
use Rattle.rulebook.specs.declared.Terms.{Terms}
use Rattle.rulebook.specs.Layout.{ring}
use Rattle.rulebook.specs.WindowWalk.{window_place, place_dated}
use Rattle.rulebook.proofs.laws.TestLaws.{all_same}
use Rattle.book.specs.declared.day.Day.{Day}
use Rattle.book.specs.declared.day.Day.TheVariants.{Closed, Open}
use Rattle.book.specs.Parts.{slot_fits, day_fits}
use Rattle.book.specs.Slots.{day_at, slot_told, slots_fit}

day-told : (n : ℕ) (dated closed : Bool) (xs : List ℤ) → day_fits n (cond {A = Option Day} dated (Some (cond closed Closed Open)) None) xs ≡ slot_fits n dated closed xs
unfolding day_fits slot_fits
day-told n true true xs = refl
day-told n true false xs = refl
day-told n false closed xs = refl

-- the slots, each of its day
pub slots-told : (o : Terms) (k : ℕ) (xs : List ℤ) → all (ring o) (slot_told o k xs) ≡ slots_fit o k xs
unfolding slots_fit slot_told day_at
slots-told o k xs = all_same (ring o) _ _ (λ v h. day-told o.accounts (place_dated o k (window_place o k v)) (ltb (window_place o k v) o.lag) _)
