-- What is proved of the calls together. Assumes nothing.
use Rattle.std.specs.Prelude.{◌≡◌, true, false, List, ◌+◌, ◌*◌, ℤ}
use Rattle.rulebook.specs.declared.Terms.{Terms}
use Rattle.rulebook.specs.Terms.{InTerms}
use Rattle.rulebook.specs.WellFormed.{well_formed}
use Rattle.rulebook.specs.Close.{closed}
use Rattle.rulebook.specs.Numbers.{accepted, of_close}
use Rattle.robijan.specs.ClosePacked.{ClosePacked}
use Rattle.robijan.specs.Returned.{judge_number, size_returned}
use Rattle.robijan.proofs.laws.ClosePackedLaws.{close-packed}
use Rattle.robijan.proofs.laws.ReturnedLaws.{judge-formed, judge-ill, size-taken, size-refused}

pub record RobijanTheorems : Type 0 where
  -- what an accepted close writes can be written in packed decimal, and is read back
  pub close_packed : (w statement : List ℤ) → (of_close (closed w statement).answer).number ≡ accepted → ClosePacked w statement
  -- a lent book is told by 0 where it is well formed, and by 3 where it is not
  pub judged_formed : (w : List ℤ) → well_formed w ≡ true → judge_number w ≡ 0
  pub judged_ill : (w : List ℤ) → well_formed w ≡ false → judge_number w ≡ 3
  -- of terms that an opening takes the size in document 01's figures; of any others 1, and no word
  pub sized : (o : Terms) → InTerms o → size_returned o ≡ record { number = 0; words = 64 + 8 * o.accounts + 48 * (o.lag + o.horizon) * (4 + 24 * o.accounts) }
  pub size_refused : (o : Terms) → ¬ InTerms o → size_returned o ≡ record { number = 1; words = 0 }

pub robijan_theorems : RobijanTheorems
robijan_theorems = record { close_packed = close-packed; judged_formed = judge-formed; judged_ill = judge-ill; sized = size-taken; size_refused = size-refused }
