-- Document 01, "Program `settle`": its lines, in ASCII. Assumes nothing.
use Rattle.std.specs.Prelude.{cond, List, [], ◌∷◌, ◌++◌, map, ℕ, eqb, ℤ}
use Rattle.rulebook.specs.declared.Answer.{Answer}
use Rattle.rulebook.specs.Numbers.{accepted}
use Rattle.console.specs.Decimal.{decimal, signed_decimal}

abbrev pub space : ℕ
space = 32

abbrev pub line_feed : ℕ
line_feed = 10

-- each part after one space
unfoldable pub spaced : List (List ℕ) → List ℕ
spaced [] = []
spaced (part ∷ parts) = space ∷ (part ++ spaced parts)

-- a line: a word and its parts, separated by one space
unfoldable pub line_of : List ℕ → List (List ℕ) → List ℕ
line_of word parts = word ++ (spaced parts ++ (line_feed ∷ []))

-- ---- The words

-- `open`
abbrev pub open_word : List ℕ
open_word = 111 ∷ 112 ∷ 101 ∷ 110 ∷ []

-- `submit`
abbrev pub submit_word : List ℕ
submit_word = 115 ∷ 117 ∷ 98 ∷ 109 ∷ 105 ∷ 116 ∷ []

-- `close`
abbrev pub close_word : List ℕ
close_word = 99 ∷ 108 ∷ 111 ∷ 115 ∷ 101 ∷ []

-- `bad`
abbrev pub bad_word : List ℕ
bad_word = 98 ∷ 97 ∷ 100 ∷ []

-- ---- The lines

-- the word, number and position
unfoldable pub answer_line : List ℕ → Answer → List ℕ
answer_line word a = line_of word (decimal a.number ∷ decimal a.position ∷ [])

unfoldable pub open_line : Answer → List ℕ
open_line a = answer_line open_word a

unfoldable pub submit_line : Answer → List ℕ
submit_line a = answer_line submit_word a

-- `close 0`, day, count and the amounts, those of the accounts and then the MSSL's
unfoldable pub closed_line : ℕ → ℕ → List ℤ → List ℕ
closed_line day count amounts = line_of close_word (decimal accepted ∷ decimal day ∷ decimal count ∷ map signed_decimal amounts)

unfoldable pub close_line : Answer → List ℤ → List ℕ
close_line a amounts = cond (eqb a.number accepted) (closed_line a.day a.count amounts) (answer_line close_word a)

-- the first position of an item that is cut short, over-long or unknown
unfoldable pub bad_line : ℕ → List ℕ
bad_line position = line_of bad_word (decimal position ∷ [])

-- ---- Room

-- bytes enough for every line: 5 of a word, three numbers and 33 amounts of at most 21 with their space, and a line feed
abbrev pub line_room : ℕ
line_room = 1024
