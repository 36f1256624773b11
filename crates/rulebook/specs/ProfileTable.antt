-- Document 02, P1: what the profile call returns of any input, each answer exactly, in the paper's figures. Assumes nothing.
use Rattle.std.specs.Prelude.{◌≡◌, ◌↔◌, List, ℕ, ◌<◌, ℤ, pos, length, ◌≤ℤ◌}
use Rattle.integer.specs.Below.{tabulate}
use Rattle.integer.specs.Words.{word}
use Rattle.rulebook.specs.Units.{positive}
use Rattle.rulebook.specs.Profile.{KeepsLimits, evenly}
use Rattle.rulebook.specs.Calls.{quantities_in, profile_call}

-- a list of 48 quantities
pub record Quantities (profile : List ℤ) : Type 0 where
  pub count : length profile ≡ 48
  pub from : (i : ℕ) → i < 48 → pos 0 ≤ℤ word profile i
  pub to : (i : ℕ) → i < 48 → word profile i ≤ℤ pos 10000000

-- a list of 48 quantities that keeps the limits of T and D
pub record Keeping (t d : ℤ) (profile : List ℤ) : Type 0 where
  pub quantities : Quantities profile
  pub limits : KeepsLimits (positive t) (positive d) (quantities_in profile)

-- what is given is in its range
pub record ProfileGiven (profile : List ℤ) (t d : ℤ) : Type 0 where
  pub quantities : Quantities profile
  pub total_from : pos 0 ≤ℤ t
  pub total_to : t ≤ℤ pos 480000000
  pub contracted_from : pos 0 ≤ℤ d
  pub contracted_to : d ≤ℤ pos 10000000

-- T spread evenly over 48 intervals
abbrev pub even_profile : ℤ → List ℤ
even_profile t = tabulate 48 (λ i. pos (evenly (positive t) i))

pub record ProfileTable (profile : List ℤ) (t d : ℤ) : Type 0 where
  -- 1 exactly if T, D or a quantity is out of its range, or the list is not of 48
  pub outside : (profile_call profile t d ≡ record { number = 1; keeps = 0 }) ↔ (¬ ProfileGiven profile t d)
  -- else 15 exactly if no list of 48 quantities keeps the limits
  pub impossible : (profile_call profile t d ≡ record { number = 15; keeps = 0 }) ↔ (ProfileGiven profile t d × ((other : List ℤ) → ¬ Keeping t d other))
  -- yes exactly if this one does
  pub yes : (profile_call profile t d ≡ record { number = 0; keeps = 1 }) ↔ (ProfileGiven profile t d × Keeping t d profile)
  -- no exactly if this one does not, and another does
  pub no : (profile_call profile t d ≡ record { number = 0; keeps = 0 }) ↔ (ProfileGiven profile t d × ((¬ Keeping t d profile) × ((other : List ℤ) × Keeping t d other)))
  -- one that does, wherever neither 1 nor 15 is returned
  pub shown : (profile_call profile t d).number ≡ 0 → Keeping t d (even_profile t)

-- what keeps the limits of a T and D in range is answered yes
abbrev pub KeepingAnswered : Type 0
KeepingAnswered = (profile : List ℤ) (t d : ℤ) → pos 0 ≤ℤ t → t ≤ℤ pos 480000000 → pos 0 ≤ℤ d → d ≤ℤ pos 10000000
    → Keeping t d profile → profile_call profile t d ≡ record { number = 0; keeps = 1 }
