-- What the calls return that document 01 leaves to the library: is a book well formed, and how large is it? Assumes nothing.
use Rattle.std.specs.Prelude.{cond, List, ℕ, ℤ}
use Rattle.rulebook.specs.declared.Terms.{Terms}
use Rattle.rulebook.specs.Terms.{terms_fit}
use Rattle.rulebook.specs.Layout.{size}
use Rattle.rulebook.specs.WellFormed.{well_formed}
use Rattle.rulebook.specs.Numbers.{accepted, outside_range, not_well_formed}
use Rattle.robijan.specs.declared.book_calls.BookSize.{BookSize}

-- 3 for words that are no well-formed book
unfoldable pub judge_number : List ℤ → ℕ
judge_number w = cond (well_formed w) accepted not_well_formed

-- the number, and the words that a book takes; terms outside their ranges are refused, as by an opening
unfoldable pub size_returned : Terms → BookSize
size_returned o = cond (terms_fit o) (record { number = accepted; words = size o }) (record { number = outside_range; words = 0 })
