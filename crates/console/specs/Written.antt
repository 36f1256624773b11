-- A text, put into lent bytes. Assumes nothing.
use Rattle.std.specs.Prelude.{◌≡◌, List, [], ◌∷◌, ℕ, ◌+◌, ◌≤◌, length, set}

-- the bytes with a text stored from an index on, the others kept
unfoldable pub written : List ℕ → ℕ → List ℕ → List ℕ
written bytes at [] = bytes
written bytes at (b ∷ text) = written (set bytes at b) (at + 1) text

-- what a call that puts a text promises: the bytes after, and the index past the text that it answers, which lies within them
pub record Put (before : List ℕ) (at : ℕ) (text : List ℕ) (after : List ℕ) (next : ℕ) : Type 0 where
  pub bytes : after ≡ written before at text
  pub past : next ≡ at + length text
  pub within : next ≤ length after
