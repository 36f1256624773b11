-- A run on what was read, turn by turn: what the program promises of it, since no contract speaks of standard input. Assumes nothing.
use Rattle.std.specs.Prelude.{◌≡◌, Bool, true, false, ◌⊎◌, List, ℕ, ◌≤◌, ℤ, drop, Result}
use Rattle.console.specs.Input.{item_bytes}
use Rattle.interpreter.specs.declared.Next.{Next}
use Rattle.interpreter.specs.Interpreter.{Turn, beginning, turn, handed, Performs}

-- which bytes are read for the item at a position: some item's, or those of an input that is at hand
abbrev pub SomeItem : ℕ → List ℕ → Type 0
SomeItem position read = item_bytes read ≡ read

abbrev pub RestOf : List ℕ → ℕ → List ℕ → Type 0
RestOf s position read = read ≡ drop position s

-- more positions than any input has: a proved loop has to end
abbrev pub farthest : ℕ
farthest = 9000000000000000000

module _ (Read : ℕ → List ℕ → Type 0) where
  -- the turns that a run reaches: the opening's; and while the last one says so, that of the bytes read, on what the last one handed on
  pub data Reached (book : List ℤ) (opening : List ℕ) : Turn → Type 0 where
    begun : Reached book opening (beginning book opening)
    next : {t : Turn} (read : List ℕ) → Reached book opening t → t.more ≡ true → Read t.position read → Reached book opening (turn t.accounts t.position t.book read)

  -- what a run leaves: the book and the line of a turn that it reached
  pub record RunLeaves (book : List ℤ) (opening : List ℕ) (book_after : List ℤ) (line_after : List ℕ) : Type 0 where
    pub last : Turn
    pub reached : Reached book opening last
    pub book_left : book_after ≡ last.book
    pub printed : line_after ≡ last.line

  -- all of a run: where every line was written, it ended because nothing more was to be read
  pub record Runs (book : List ℤ) (opening : List ℕ) (written : Bool) (book_after : List ℤ) (line_after : List ℕ) : Type 0 where
    pub left : RunLeaves book opening book_after line_after
    pub whole : written ≡ true → (left.last.more ≡ false) ⊎ (farthest ≤ left.last.position)

  -- and between two turns, with what the last one handed on
  pub record Stands (book : List ℤ) (opening : List ℕ) (r : Result Next Next) (book_now : List ℤ) (line_now : List ℕ) : Type 0 where
    pub left : RunLeaves book opening book_now line_now
    pub goes_on : r ≡ handed left.last

  -- what a step promises: bytes were read, and performed
  pub record Steps (accounts position : ℕ) (book : List ℤ) (r : Result Next Next) (book_after : List ℤ) (line_after : List ℕ) : Type 0 where
    pub read : List ℕ
    pub item : Read position read
    pub done : Performs accounts position book read r book_after line_after
