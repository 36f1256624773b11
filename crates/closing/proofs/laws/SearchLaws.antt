-- Laws of the search, turn by turn. Assumes nothing.
use Rattle.std.specs.Prelude.{◌≡◌, Bool, true, false, List, ℕ, ◌+◌, ◌<◌, ℤ, Option, Some, None}
use Rattle.integer.specs.Below.{or_else, first}
use Rattle.integer.proofs.laws.BelowLaws.{first_more, first_stops}
use Rattle.rulebook.specs.declared.Section.{Section}
use Rattle.rulebook.specs.Units.{intervals}
use Rattle.rulebook.specs.Layout.{interval_length}
use Rattle.rulebook.specs.Close.{account_searched, residuals_searched, searched}
use Rattle.closing.specs.Search.{flag_absent, absent_in}

-- the first of two that finds something
pub or_first : {x : Option ℕ} {i : ℕ} (y : Option ℕ) → x ≡ Some i → or_else x y ≡ Some i
unfolding or_else
or_first y e = rw e

pub or_second : {x y z : Option ℕ} → x ≡ None → y ≡ z → or_else x y ≡ z
unfolding or_else
or_second e f = rw e f

-- ---- Interval i, where none before it has an absent flag

module _ (w : List ℤ) (n today then : ℕ) (due : Bool) (i : ℕ) (h : first i (absent_in w n today then due) ≡ None) where
  abbrev here : Section → ℕ → Option ℕ
  here = flag_absent w (interval_length n) today then i

  -- nothing is found in it
  pub passed-due : first n (account_searched here) ≡ None → due ≡ true → residuals_searched n here ≡ None → first (i + 1) (absent_in w n today then due) ≡ None
  unfolding absent_in searched
  passed-due p d s = first_more i (absent_in w n today then due) h (or_second p (rw (d, s)))

  pub passed : first n (account_searched here) ≡ None → due ≡ false → first (i + 1) (absent_in w n today then due) ≡ None
  unfolding absent_in searched
  passed p d = first_more i (absent_in w n today then due) h (or_second p (rw d))

  -- an account's flag is
  pub stops-account : {x : ℕ} (a : ℕ) → i < intervals → a < n → first a (account_searched here) ≡ None → account_searched here a ≡ Some x → first intervals (absent_in w n today then due) ≡ Some x
  unfolding absent_in searched
  stops-account {x} a k l p e = first_stops intervals (absent_in w n today then due) i x k h (or_first _ (first_stops n (account_searched here) a x l p e))

  -- NCC or a residual is
  pub stops-residuals : {x : ℕ} → i < intervals → first n (account_searched here) ≡ None → due ≡ true → residuals_searched n here ≡ Some x → first intervals (absent_in w n today then due) ≡ Some x
  unfolding absent_in searched
  stops-residuals {x} k p d e = first_stops intervals (absent_in w n today then due) i x k h (or_second p (rw (d, e)))
