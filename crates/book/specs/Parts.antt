-- What the judge decides of a slot, of the words that it is lent: the rule book's tests, at these words. Assumes nothing.
use Rattle.std.specs.Prelude.{Bool, cond, List, ℕ, ◌+◌, ◌-◌, ◌*◌, ◌/◌, ℤ, leb, length, ◌&&◌, Option, Some, None}
use Rattle.integer.specs.Words.{word}
use Rattle.rulebook.specs.Layout.{interval_words, account_words, interval_length}
use Rattle.rulebook.specs.WellFormed as rule
use Rattle.book.specs.declared.day.Day.{Day}
use Rattle.book.specs.Day.{is_closed}
use Rattle.opening.specs.Blank.{blank}

-- an interval, of as many accounts as its words hold
unfoldable pub interval_told : Bool → List ℤ → Bool
interval_told closed xs = leb interval_words (length xs) && rule.interval_fits ((length xs - interval_words) / account_words) closed (word xs)

-- the intervals of n accounts, one after another
unfoldable pub intervals_fit : ℕ → Bool → List ℤ → Bool
intervals_fit n closed xs = rule.intervals_fit n closed (λ i m. word xs (i * interval_length n + m))

-- a slot of a day of the window, or a blank one
unfoldable pub slot_fits : ℕ → Bool → Bool → List ℤ → Bool
slot_fits n dated closed xs = cond dated (intervals_fit n closed xs) (blank xs)

-- a slot of such a day, or of none
unfoldable pub day_fits : ℕ → Option Day → List ℤ → Bool
day_fits n (Some day) xs = intervals_fit n (is_closed day) xs
day_fits n None xs = blank xs
