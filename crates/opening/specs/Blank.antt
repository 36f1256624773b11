-- What a test of zeros decides, of the words that it is lent. Assumes nothing.
use Rattle.std.specs.Prelude.{Bool, List, ℕ, ℤ, length}
use Rattle.integer.specs.Below.{all}
use Rattle.integer.specs.Words.{word}
use Rattle.rulebook.specs.WellFormed.{is_zero}

-- every word is zero
unfoldable pub blank : List ℤ → Bool
blank xs = all (length xs) (λ k. is_zero (word xs k))

-- many zeros are tested in rows of so many words
abbrev pub row_words : ℕ
row_words = 64
