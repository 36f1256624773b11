-- The slots of a lent book, as the code lends them. Assumes nothing.
use Rattle.std.specs.Prelude.{cond, List, ℕ, ℤ, Option, Some, None, option_map}
use Rattle.integer.specs.Words.{part}
use Rattle.rulebook.specs.declared.Terms.{Terms}
use Rattle.rulebook.specs.DayAmount.{settles_residual, residual_day, edition_of}
use Rattle.rulebook.specs.Layout.{slot_length, slot_start}
use Rattle.amounts.specs.Day.{Then}

-- the words of day d's slot
abbrev pub slot_words : Terms → List ℤ → ℕ → List ℤ
slot_words o w d = part w (slot_start o d) (slot_length o.accounts)

-- r, the day whose residuals a close of D settles; none where r is before F
unfoldable pub settled_day : Terms → ℕ → Option ℕ
settled_day o D = cond (settles_residual o D) (Some (residual_day o D)) None

-- where its slot starts
abbrev pub settled_start : Terms → ℕ → Option ℕ
settled_start o D = option_map (slot_start o) (settled_day o D)

-- its slot and edition
abbrev pub then_of : Terms → List ℤ → ℕ → Then
then_of o w d = record { accounts = o.accounts; words = slot_words o w d; edition = edition_of o d }

abbrev pub settled_then : Terms → List ℤ → ℕ → Option Then
settled_then o w D = option_map (then_of o w) (settled_day o D)
