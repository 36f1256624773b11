-- Document 01, "Numbers returned": 3, 9 and 10 of a close, on any lent book; SearchOrder has 11 and 0. Assumes nothing.
use Rattle.std.specs.Prelude.{◌≡◌, ◌↔◌, false, List, suc, ◌≤◌, T, ℤ, length}
use Rattle.rulebook.specs.Units.{last_day}
use Rattle.rulebook.specs.BookData.{terms_of, next_day}
use Rattle.rulebook.specs.WellFormed.{well_formed}
use Rattle.rulebook.specs.Close.{closed}
use Rattle.rulebook.specs.Numbers.{not_well_formed, book_finished, output_too_short, numbered, of_close}

-- what a close of w with this statement returns
pub record CloseTable (w statement : List ℤ) : Type 0 where
  -- 3 exactly if the book is not well formed
  pub ill_formed : (of_close (closed w statement).answer ≡ numbered not_well_formed 0) ↔ (well_formed w ≡ false)
  -- else 9 exactly if C is 36,525
  pub finished : T (well_formed w) → (of_close (closed w statement).answer ≡ numbered book_finished 0) ↔ (next_day w ≡ suc last_day)
  -- else 10 exactly if the statement has N words or fewer
  pub no_room : T (well_formed w) → next_day w ≤ last_day → (of_close (closed w statement).answer ≡ numbered output_too_short 0) ↔ (length statement ≤ (terms_of w).accounts)
