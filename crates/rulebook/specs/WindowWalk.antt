-- The window place by place, which proofs walk: place u, below L + H, is day C + u − L, where k days are closed, C = F + k. Assumes nothing.
use Rattle.std.specs.Prelude.{Bool, cond, ◌&&◌, List, ℕ, ◌+◌, ◌-◌, ◌%◌, ℤ, leb, ltb}
use Rattle.rulebook.specs.declared.Terms.{Terms}
use Rattle.rulebook.specs.Units.{last_day}
use Rattle.rulebook.specs.Layout.{ring}
use Rattle.rulebook.specs.WellFormed.{slot_blank, dated_fits}

-- its slot, and the place of slot v
unfoldable pub window_slot : Terms → ℕ → ℕ → ℕ
window_slot o k u = (k + u + o.horizon) % ring o

unfoldable pub window_place : Terms → ℕ → ℕ → ℕ
window_place o k v = (v + (ring o - (k + o.horizon) % ring o)) % ring o

-- it is of a day: day C + u − L is neither before F nor past the last
unfoldable pub place_dated : Terms → ℕ → ℕ → Bool
place_dated o k u = leb o.lag (k + u) && leb (o.first + (k + u - o.lag)) last_day

-- its slot is that of a closed day, or of an open one; of no day, it is blank
unfoldable pub window_slot_fits : Terms → List ℤ → ℕ → ℕ → Bool
window_slot_fits o w k u = cond (place_dated o k u) (dated_fits o w (ltb u o.lag) (window_slot o k u)) (slot_blank o w (window_slot o k u))
