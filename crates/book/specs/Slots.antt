-- What the judge decides of the slots as they lie. Assumes nothing.
use Rattle.std.specs.Prelude.{Bool, cond, List, ℕ, ◌*◌, ltb, ℤ, Option, Some, None}
use Rattle.integer.specs.Below.{all}
use Rattle.integer.specs.Words.{part}
use Rattle.rulebook.specs.declared.Terms.{Terms}
use Rattle.rulebook.specs.Layout.{slot_length, ring}
use Rattle.rulebook.specs.WindowWalk.{window_place, place_dated}
use Rattle.book.specs.declared.day.Day.{Day}
use Rattle.book.specs.declared.day.Day.TheVariants.{Closed, Open}
use Rattle.book.specs.Parts.{slot_fits, day_fits}

-- the day of place u of the window, where k days are closed; the first L places are of closed days
unfoldable pub day_at : Terms → ℕ → ℕ → Option Day
day_at o k u = cond (place_dated o k u) (Some (cond (ltb u o.lag) Closed Open)) None

-- slot v, of its day
unfoldable pub slot_told : Terms → ℕ → List ℤ → ℕ → Bool
slot_told o k xs v = day_fits o.accounts (day_at o k (window_place o k v)) (part xs (v * slot_length o.accounts) (slot_length o.accounts))

-- where k days are closed, slot v has place `window_place o k v`; the first L places are of closed days
unfoldable pub slots_fit : Terms → ℕ → List ℤ → Bool
slots_fit o k xs = all (ring o) (λ v. slot_fits o.accounts (place_dated o k (window_place o k v)) (ltb (window_place o k v) o.lag) (part xs (v * slot_length o.accounts) (slot_length o.accounts)))
