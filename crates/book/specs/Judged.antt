-- What the judge answers of a lent book. Assumes nothing.
use Rattle.std.specs.Prelude.{◌≡◌, true, cond, List, ℕ, suc, ◌≤◌, ℤ, length, Option, Some, None}
use Rattle.rulebook.specs.declared.Terms.{Terms}
use Rattle.rulebook.specs.Units.{last_day}
use Rattle.rulebook.specs.Terms.{InTerms}
use Rattle.rulebook.specs.Layout.{size}
use Rattle.rulebook.specs.BookData.{terms_of, next_day}
use Rattle.rulebook.specs.WellFormed.{well_formed}
use Rattle.book.specs.declared.judge.FormedBook.{FormedBook}

-- a well-formed book's terms and next day, of any words
unfoldable pub judged_book : List ℤ → Option FormedBook
judged_book w = cond (well_formed w) (Some (record { terms = terms_of w; next = next_day w })) None

-- what `Some` of these says of the book: well formed, of these terms and this next day
pub record Formed (w : List ℤ) (o : Terms) (C : ℕ) : Type 0 where
  pub formed : well_formed w ≡ true
  pub terms : terms_of w ≡ o
  pub next : next_day w ≡ C
  pub in_terms : InTerms o
  pub begun : o.first ≤ C
  pub ended : C ≤ suc last_day
  pub room : size o ≤ length w
