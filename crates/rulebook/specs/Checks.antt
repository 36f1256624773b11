-- Document 01, "Numbers returned": checks in the order in which they are tried, and the first that strikes. Assumes nothing.
use Rattle.std.specs.Prelude.{◌≡◌, Bool, true, false, List, ◌∷◌, ◌++◌, ℕ}
use Rattle.integer.specs.Below.{Each}

-- a number of the table and its position: does its condition hold there?
pub record Check : Type 0 where
  pub number : ℕ
  pub position : ℕ
  pub holds : Bool

-- no check of a list strikes
abbrev pub NoneStrikes : List Check → Type 0
NoneStrikes cs = Each (λ c. c.holds ≡ false) cs

-- "each is given if its condition holds and no earlier check struck": of these checks number n's strikes first, at position p
pub record FirstStrikes (cs : List Check) (n p : ℕ) : Type 0 where
  pub before : List Check
  pub check : Check
  pub after : List Check
  pub order : cs ≡ before ++ (check ∷ after)
  pub passed : NoneStrikes before
  pub struck : check.holds ≡ true
  pub number : check.number ≡ n
  pub position : check.position ≡ p
