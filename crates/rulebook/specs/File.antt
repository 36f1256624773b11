-- Document 01, "A submission file": its form, read off the bytes alone: where each row stands, and what it says. Assumes nothing.
use Rattle.std.specs.Prelude.{cond, List, ◌++◌, ℕ, zero, suc, ◌+◌, ◌*◌, ltb, ℤ, pos, get_or}
use Rattle.integer.specs.Integer.{twos_complement}
use Rattle.integer.specs.Below.{turns, tabulate}
use Rattle.integer.specs.Words.{word}
use Rattle.rulebook.specs.declared.Section.{Section}
use Rattle.rulebook.specs.declared.Section.TheVariants.{Vesting, Meter, Residual, Ncc}
use Rattle.rulebook.specs.Units.{intervals}
use Rattle.rulebook.specs.Sections.{per_interval, same_section}
-- the figures' names
pub use Rattle.rulebook.specs.Sections.{Figure, BVQ, BVP, TVQ, TVP, MEP, IEQ, UEGQ, MQ, RVP1, RVP2, NccLoad, figure_section, figure_place}

-- ---- Fields

-- the number that n bytes spell, the lowest first; a field of no bytes is 0
unfoldable pub num : ℕ → List ℕ → ℕ → ℕ
num zero s at = 0
num (suc n) s at = get_or s at 0 + 256 * num n s (at + 1)

-- n below 2 ^ 32, read in two's complement
abbrev pub signed32 : ℕ → ℤ
signed32 n = twos_complement 32 n

-- a value: four bytes
unfoldable pub value_at : List ℕ → ℕ → ℤ
value_at s at = signed32 (num 4 s at)

-- ---- A row: account, day, count, values (Sections). A field that a section lacks has no bytes.
--            account   day   count   each value
--   vesting  1         2     1       4
--   meter    1         2     1       4
--   residual 1         2     none    4
--   NCC      none      2     none    4
abbrev pub account_bytes : Section → ℕ
account_bytes Vesting = 1
account_bytes Meter = 1
account_bytes Residual = 1
account_bytes Ncc = 0

abbrev pub count_bytes : Section → ℕ
count_bytes Vesting = 1
count_bytes Meter = 1
count_bytes Residual = 0
count_bytes Ncc = 0

-- those of a section's count of rows, of a row's day, and of a value
abbrev pub rows_width : ℕ
rows_width = 2

abbrev pub day_width : ℕ
day_width = 2

abbrev pub value_width : ℕ
value_width = 4

-- ---- Where a row's fields stand, the row at `at`, and what they say

abbrev pub day_pos : Section → ℕ → ℕ
day_pos sec at = at + account_bytes sec

abbrev pub count_pos : Section → ℕ → ℕ
count_pos sec at = day_pos sec at + day_width

abbrev pub values_pos : Section → ℕ → ℕ
values_pos sec at = count_pos sec at + count_bytes sec

abbrev pub account_at : Section → List ℕ → ℕ → ℕ
account_at sec s at = num (account_bytes sec) s at

abbrev pub day_at : Section → List ℕ → ℕ → ℕ
day_at sec s at = num day_width s (day_pos sec at)

abbrev pub count_at : Section → List ℕ → ℕ → ℕ
count_at sec s at = num (count_bytes sec) s (count_pos sec at)

-- value k of those that start at `from`
abbrev pub value_pos : ℕ → ℕ → ℕ
value_pos from k = from + value_width * k

-- how many values a row of a tranche or facility count has
abbrev pub values_of : Section → ℕ → ℕ
values_of sec count = intervals * per_interval sec count

-- and where it ends
abbrev pub row_end_of : Section → ℕ → ℕ → ℕ
row_end_of sec at count = value_pos (values_pos sec at) (values_of sec count)

-- the row's own, by the count that it says
abbrev pub values_in : Section → List ℕ → ℕ → ℕ
values_in sec s at = values_of sec (count_at sec s at)

unfoldable pub row_end : Section → List ℕ → ℕ → ℕ
row_end sec s at = row_end_of sec at (count_at sec s at)

-- ---- Sections

-- where row i of a section stands whose first row is at `first`
unfoldable pub row_pos : Section → List ℕ → ℕ → ℕ → ℕ
row_pos sec s first i = turns i (λ _ at. row_end sec s at) first

-- a section at `at`: the count of its rows in 2 bytes, then the rows
abbrev pub rows_in : List ℕ → ℕ → ℕ
rows_in s at = num rows_width s at

abbrev pub first_row : ℕ → ℕ
first_row at = at + rows_width

unfoldable pub section_end : Section → List ℕ → ℕ → ℕ
section_end sec s at = row_pos sec s (first_row at) (rows_in s at)

-- where the four sections start, and where the last ends
abbrev pub meter_pos : List ℕ → ℕ
meter_pos s = section_end Vesting s 0

abbrev pub residual_pos : List ℕ → ℕ
residual_pos s = section_end Meter s (meter_pos s)

abbrev pub ncc_pos : List ℕ → ℕ
ncc_pos s = section_end Residual s (residual_pos s)

abbrev pub end_pos : List ℕ → ℕ
end_pos s = section_end Ncc s (ncc_pos s)

-- ---- Rows

-- what a row names, and its values, interval after interval
pub record Row : Type 0 where
  pub section : Section
  pub account : ℕ
  pub day : ℕ
  pub count : ℕ
  pub numbers : List ℤ

abbrev pub row_at : Section → List ℕ → ℕ → Row
row_at sec s at = record {
  section = sec;
  account = account_at sec s at;
  day = day_at sec s at;
  count = count_at sec s at;
  numbers = tabulate (values_in sec s at) (λ k. value_at s (value_pos (values_pos sec at) k));
}

unfoldable pub section_rows : Section → List ℕ → ℕ → List Row
section_rows sec s at = tabulate (rows_in s at) (λ i. row_at sec s (row_pos sec s (first_row at) i))

-- the rows of a file, in file order
unfoldable pub file_rows : List ℕ → List Row
file_rows s = section_rows Vesting s 0 ++ (section_rows Meter s (meter_pos s) ++ (section_rows Residual s (residual_pos s) ++ section_rows Ncc s (ncc_pos s)))

-- number k of a row at interval i; zero where it has no such number
unfoldable pub number_of : Row → ℕ → ℕ → ℤ
number_of row i k = cond (ltb k (per_interval row.section row.count))
    (word row.numbers (i * per_interval row.section row.count + k)) (pos 0)

-- ---- Figures of a row, by document 01's names

-- a row's figure at interval i; zero where the row has no such figure
unfoldable pub figure_of : Row → ℕ → Figure → ℤ
figure_of row i g = cond (same_section row.section (figure_section g)) (number_of row i (figure_place g)) (pos 0)
