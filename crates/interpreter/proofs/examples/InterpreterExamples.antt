-- Document 01, "Program `settle`": what it prints on some inputs. Proved in ExamplesProof. Assumes nothing.
use Rattle.std.specs.Prelude.{◌≡◌, List, [], ◌∷◌, ◌++◌, ℕ, ◌^◌, ◌≤◌, length}
use Rattle.rulebook.proofs.examples.Examples.{zeros}
use Rattle.interpreter.specs.Interpreter.{new_words, printed}
use Rattle.interpreter.specs.Running.{farthest}

-- ---- Inputs

-- N = L = H = 1, F = 9,497, and more
abbrev pub opening : List ℕ → List ℕ
opening rest = 0x01 ∷ 0x01 ∷ 0x01 ∷ 0x19 ∷ 0x25 ∷ rest

-- N, L and H; F = 9,497
abbrev pub opening_of : ℕ → ℕ → ℕ → List ℕ
opening_of n l h = n ∷ l ∷ h ∷ 0x19 ∷ 0x25 ∷ []

-- a vesting row of 9,497 without tenders, a meter row of one facility; in interval 0 its first two values, of which only the lower bytes are not zero
abbrev pub row_bytes : ℕ → ℕ → ℕ → ℕ → ℕ → ℕ → List ℕ
row_bytes account count low high low' high' = account ∷ 0x19 ∷ 0x25 ∷ count ∷ low ∷ high ∷ 0x00 ∷ 0x00 ∷ low' ∷ high' ∷ 0x00 ∷ 0x00 ∷ zeros 376

-- a file of 1,560 bytes: BVQ 400, BVP 15,000 and BVQ 1, BVP 3,000; MEP 10,000 with IEQ 1 for both
abbrev pub day_file : List ℕ
day_file = 0x02 ∷ 0x00 ∷ row_bytes 0 0 0x90 0x01 0x98 0x3A ++ (row_bytes 1 0 0x01 0x00 0xB8 0x0B
    ++ (0x02 ∷ 0x00 ∷ row_bytes 0 1 0x10 0x27 0x01 0x00 ++ (row_bytes 1 1 0x10 0x27 0x01 0x00 ++ zeros 4)))

-- N = 2, L = H = 1; it is submitted and closed, and then there is a byte that is no command
abbrev pub day_input : List ℕ
day_input = 0x02 ∷ 0x01 ∷ 0x01 ∷ 0x19 ∷ 0x25 ∷ 0x53 ∷ 0x18 ∷ 0x06 ∷ day_file ++ (0x43 ∷ 0x00 ∷ [])

-- ---- Lines, and more

-- `open ` and a number; `open 0 0`
abbrev pub open_number : ℕ → List ℕ → List ℕ
open_number digit rest = 111 ∷ 112 ∷ 101 ∷ 110 ∷ 32 ∷ digit ∷ 32 ∷ 48 ∷ 10 ∷ rest

abbrev pub open_text : List ℕ → List ℕ
open_text rest = open_number 48 rest

-- `submit`, and a number and a position of one digit
abbrev pub submit_text : ℕ → ℕ → List ℕ → List ℕ
submit_text number position rest = 115 ∷ 117 ∷ 98 ∷ 109 ∷ 105 ∷ 116 ∷ 32 ∷ number ∷ 32 ∷ position ∷ 10 ∷ rest

-- `close 11 76`
abbrev pub close_text : List ℕ → List ℕ
close_text rest = 99 ∷ 108 ∷ 111 ∷ 115 ∷ 101 ∷ 32 ∷ 49 ∷ 49 ∷ 32 ∷ 55 ∷ 54 ∷ 10 ∷ rest

-- `close 0 9497 0 2000 -7 -1993`
abbrev pub closed_text : List ℕ → List ℕ
closed_text rest = 99 ∷ 108 ∷ 111 ∷ 115 ∷ 101 ∷ 32 ∷ 48 ∷ 32 ∷ 57 ∷ 52 ∷ 57 ∷ 55 ∷ 32 ∷ 48 ∷ 32 ∷ 50 ∷ 48 ∷ 48 ∷ 48 ∷ 32 ∷ 45 ∷ 55
    ∷ 32 ∷ 45 ∷ 49 ∷ 57 ∷ 57 ∷ 51 ∷ 10 ∷ rest

-- `bad` and a position of one digit
abbrev pub bad_text : ℕ → List ℕ
bad_text digit = 98 ∷ 97 ∷ 100 ∷ 32 ∷ digit ∷ 10 ∷ []

-- `bad 1569`
abbrev pub bad_late : List ℕ
bad_late = 98 ∷ 97 ∷ 100 ∷ 32 ∷ 49 ∷ 53 ∷ 54 ∷ 57 ∷ 10 ∷ []

pub record Prints : Type 0 where
  -- document 01's own: hex 01 01 01 19 25 43 prints exactly `open 0 0` and `close 11 76`, one a line
  pub rehearsal : printed (opening (0x43 ∷ [])) ≡ open_text (close_text [])
  -- the book has 5,072 words: N = 2 with L = H = 1 fits, N = 1 with L + H = 4 does not, nor N = 3
  pub book_words : length new_words ≡ 5072
  pub two_accounts : printed (opening_of 2 1 1) ≡ open_text []
  pub longer_ring : printed (opening_of 1 2 2) ≡ open_number 50 []
  pub three_accounts : printed (opening_of 3 1 1) ≡ open_number 50 []
  -- no input is so long that the run's bound cuts it
  pub uncut : 2 ^ 62 ≤ farthest
  -- L, which may be 75, comes before H, which may be 92
  pub lag : printed (opening_of 1 76 1) ≡ open_number 49 []
  pub horizon : printed (opening_of 1 1 76) ≡ open_number 50 []
  -- the opening is cut short, or refused, and then nothing more is read
  pub nothing : printed [] ≡ bad_text 48
  pub four_bytes : printed (0x01 ∷ 0x01 ∷ 0x01 ∷ 0x19 ∷ []) ≡ bad_text 48
  pub refused : printed (0x00 ∷ 0x01 ∷ 0x01 ∷ 0x19 ∷ 0x25 ∷ 0x43 ∷ []) ≡ open_number 49 []
  -- an unknown command byte is bad where it stands; a cut or over-long submission where its length stands
  pub unknown : printed (opening (0x00 ∷ 0x43 ∷ [])) ≡ open_text (bad_text 53)
  pub no_length : printed (opening (0x53 ∷ 0x00 ∷ [])) ≡ open_text (bad_text 54)
  pub no_file : printed (opening (0x53 ∷ 0x02 ∷ 0x00 ∷ 0x00 ∷ [])) ≡ open_text (bad_text 54)
  pub over_long : printed (opening (0x53 ∷ 0x01 ∷ 0x40 ∷ [])) ≡ open_text (bad_text 54)
  -- eight zero bytes are accepted; a file of two is refused at 2, and the run goes on
  pub eight_zeros : printed (opening (0x53 ∷ 0x08 ∷ 0x00 ∷ zeros 8)) ≡ open_text (submit_text 48 48 [])
  pub two_zeros : printed (opening (0x53 ∷ 0x02 ∷ 0x00 ∷ 0x00 ∷ 0x00 ∷ 0x43 ∷ [])) ≡ open_text (submit_text 52 50 (close_text []))
  -- a day is submitted and closed: (15,000 − 10,000) × 400 and (3,000 − 10,000) × 1 thousandths, and minus the sum of cents for the MSSL;
  -- the bad item after it stands at 1,569
  pub day : printed day_input ≡ open_text (submit_text 48 48 (closed_text bad_late))
