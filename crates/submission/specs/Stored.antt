-- What code stores of a file: the words of a row by its form, and the rows that may be stored. Assumes nothing.
use Rattle.std.specs.Prelude.{cond, List, ℕ, ◌-◌, ◌*◌, ◌≤◌, ◌<◌, eqb, ltb, ℤ, pos, length}
use Rattle.integer.specs.Below.{turns}
use Rattle.rulebook.specs.declared.Section.{Section}
use Rattle.rulebook.specs.declared.Section.TheVariants.{Vesting, Meter, Residual, Ncc}
use Rattle.rulebook.specs.declared.Terms.{Terms}
use Rattle.rulebook.specs.Units.{intervals}
use Rattle.rulebook.specs.Sections.{accounts_of, most_count, per_interval}
use Rattle.rulebook.specs.Layout.{present, width, flag_index}
use Rattle.rulebook.specs.File.{account_at, day_at, count_at, row_end, value_pos, first_row, value_at, row_at, row_pos, rows_in, meter_pos, residual_pos, ncc_pos}
use Rattle.rulebook.specs.Submit.{row_stored}
use Rattle.submission.specs.declared.store.Form.{Form}

-- ---- Words

abbrev pub form_of : Section → ℕ → Form
form_of sec count = record { words = width sec; place = flag_index sec; flag = pos (present sec count); values = per_interval sec count }

-- number k of n that start at `from`; zero where there is no such number
unfoldable pub number_from : ℕ → List ℕ → ℕ → ℕ → ℤ
number_from n s from k = cond (ltb k n) (value_at s (value_pos from k)) (pos 0)

-- which number word j is, where the flag stands at a place
abbrev pub value_number : ℕ → ℕ → ℕ
value_number place j = cond (ltb j place) j (j - 1)

-- word j of an interval whose numbers start at `from`
unfoldable pub word_from : Form → List ℕ → ℕ → ℕ → ℤ
word_from form s from j = cond (eqb j form.place) form.flag (number_from form.values s from (value_number form.place j))

-- the words of interval i of a row whose numbers start at `from`
unfoldable pub row_from : Form → List ℕ → ℕ → ℕ → ℕ → ℤ
row_from form s from i = word_from form s (value_pos from (i * form.values))

-- ---- Rows

-- the first i rows of a section, stored in order
unfoldable pub first_stored : Terms → Section → List ℕ → ℕ → ℕ → List ℤ → List ℤ
first_stored o sec s first i = turns i (λ k. row_stored o (row_at sec s (row_pos sec s first k)) intervals)

-- a row that stands in the file whole, and in the book has words
pub record RowFits (o : Terms) (sec : Section) (s : List ℕ) (at : ℕ) : Type 0 where
  pub account : account_at sec s at < accounts_of sec o.accounts
  pub day : o.first ≤ day_at sec s at
  pub count : count_at sec s at ≤ most_count sec
  pub whole : row_end sec s at ≤ length s

pub record SectionFits (o : Terms) (sec : Section) (s : List ℕ) (at : ℕ) : Type 0 where
  pub start : first_row at ≤ length s
  pub rows : (i : ℕ) → i < rows_in s at → RowFits o sec s (row_pos sec s (first_row at) i)

pub record FileFits (o : Terms) (s : List ℕ) : Type 0 where
  pub vesting : SectionFits o Vesting s 0
  pub meter : SectionFits o Meter s (meter_pos s)
  pub residual : SectionFits o Residual s (residual_pos s)
  pub ncc : SectionFits o Ncc s (ncc_pos s)
