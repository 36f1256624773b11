-- What the bytes of a frame's fields spell, little-endian. Assumes nothing.
use Rattle.std.specs.Prelude.{◌≡◌, List, ℕ, ◌*◌, ℤ, take, drop}
use Rattle.integer.specs.Integer.{twos_complement}
use Rattle.integer.specs.Below.{tabulate}
use Rattle.rulebook.specs.File.{num}
use Rattle.replay.specs.Counts.{Counts}

-- n below 2 ^ 64, read in two's complement
abbrev pub signed64 : ℕ → ℤ
signed64 n = twos_complement 64 n

-- a word: eight bytes
unfoldable pub word_in : List ℕ → ℕ → ℤ
word_in s at = signed64 (num 8 s at)

-- n words, one after another
unfoldable pub words_in : ℕ → List ℕ → List ℤ
words_in n s = tabulate n (λ i. word_in s (8 * i))

-- n words at the start of a list are those that bytes spell, the words beyond kept
pub record ListRead (n : ℕ) (before after : List ℤ) (bytes : List ℕ) : Type 0 where
  pub counts : Counts n after
  pub words : take n after ≡ words_in n bytes
  pub beyond : drop n after ≡ drop n before
