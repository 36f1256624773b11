-- Document 01, "Numbers returned", 4 to 8: the fields of a file in file order, and the table's conditions at each. Assumes nothing.
use Rattle.std.specs.Prelude.{◌≡◌, Bool, ◌||◌, ℕ, ◌+◌, ◌*◌, ltb, leb, length}
use mathlib.Core.List.{List, [], ◌∷◌, ◌++◌, map, flat_map}
use Rattle.std.specs.Int.Signed.{lt_z}
use Rattle.integer.specs.Below.{any, tabulate}
use Rattle.rulebook.specs.declared.Section.{Section}
use Rattle.rulebook.specs.declared.Section.TheVariants.{Vesting, Meter, Residual, Ncc}
use Rattle.rulebook.specs.declared.Terms.{Terms}
use Rattle.rulebook.specs.Units.{intervals}
use Rattle.rulebook.specs.Sections.{per_interval}
use Rattle.rulebook.specs.File.{Figure, figure_place, num, value_at, values_pos, count_at, row_at, row_pos, rows_in, meter_pos, residual_pos, ncc_pos, end_pos}
use Rattle.rulebook.specs.Numbers.{field_not_whole, field_out_of_range, day_not_open, row_repeated, bytes_after_end}
use Rattle.rulebook.specs.Checks.{Check}
use Rattle.rulebook.specs.NamedRows.{NamedRow, named}
use Rattle.rulebook.specs.Encoding.{figures}
use Rattle.rulebook.specs.Proper.{least, most, same_key}

-- ---- Fields

-- a field, with its first byte: a section's row count; a row's account, day, count and figures; the file's end. A day is that of row i of a section's rows
pub data Field : Type 0 where
  RowCount : ℕ → Field
  Account : ℕ → Field
  Day : Section → (ℕ → NamedRow) → ℕ → ℕ → Field
  TrancheCount FacilityCount : ℕ → Field
  Value : Figure → ℕ → Field
  EndOfFile : ℕ → Field

abbrev pub start : Field → ℕ
start (RowCount at) = at
start (Account at) = at
start (Day sec rows i at) = at
start (TrancheCount at) = at
start (FacilityCount at) = at
start (Value g at) = at
start (EndOfFile at) = at

abbrev pub field_bytes : Field → ℕ
field_bytes (RowCount at) = 2
field_bytes (Account at) = 1
field_bytes (Day sec rows i at) = 2
field_bytes (TrancheCount at) = 1
field_bytes (FacilityCount at) = 1
field_bytes (Value g at) = 4
field_bytes (EndOfFile at) = 0

-- ---- The fields of a file, in file order

-- what stands before the values of row i, which is at p
unfoldable pub heading_fields : Section → (ℕ → NamedRow) → ℕ → ℕ → List Field
heading_fields Vesting rows i p = Account p ∷ Day Vesting rows i (p + 1) ∷ TrancheCount (p + 3) ∷ []
heading_fields Meter rows i p = Account p ∷ Day Meter rows i (p + 1) ∷ FacilityCount (p + 3) ∷ []
heading_fields Residual rows i p = Account p ∷ Day Residual rows i (p + 1) ∷ []
heading_fields Ncc rows i p = Day Ncc rows i p ∷ []

-- the values of interval h of the row at p
unfoldable pub interval_fields : Section → List ℕ → ℕ → ℕ → List Field
interval_fields sec s p h =
    map (λ g. Value g (values_pos sec p + 4 * (h * per_interval sec (count_at sec s p) + figure_place g))) (figures sec (count_at sec s p))

-- row i of the section at `at`
abbrev pub row_of : Section → List ℕ → ℕ → ℕ → NamedRow
row_of sec s at i = named (row_at sec s (row_pos sec s (at + 2) i))

unfoldable pub row_fields : Section → List ℕ → ℕ → ℕ → List Field
row_fields sec s at i =
    heading_fields sec (row_of sec s at) i (row_pos sec s (at + 2) i)
    ++ flat_map (interval_fields sec s (row_pos sec s (at + 2) i)) (tabulate intervals (λ h. h))

unfoldable pub section_fields : Section → List ℕ → ℕ → List Field
section_fields sec s at = RowCount at ∷ flat_map (row_fields sec s at) (tabulate (rows_in s at) (λ i. i))

unfoldable pub fields_of : List ℕ → List Field
fields_of s =
    section_fields Vesting s 0
    ++ (section_fields Meter s (meter_pos s)
    ++ (section_fields Residual s (residual_pos s) ++ (section_fields Ncc s (ncc_pos s) ++ (EndOfFile (end_pos s) ∷ []))))

-- each field starts where the one before it ends
unfoldable pub EndToEnd : ℕ → List Field → ℕ → Type 0
EndToEnd from [] to = from ≡ to
EndToEnd from (f ∷ fs) to = (start f ≡ from) × EndToEnd (from + field_bytes f) fs to

-- ---- The table's conditions

-- 6, C being the next day to close: past C + H − 1 or past 36,524; before C, or of residual and NCC rows before F or C − L
abbrev pub late : Terms → ℕ → ℕ → Bool
late o C d = leb (C + o.horizon) d || ltb 36524 d

abbrev pub shut : Terms → ℕ → Section → ℕ → Bool
shut o C Vesting d = ltb d C || late o C d
shut o C Meter d = ltb d C || late o C d
shut o C Residual d = (ltb d o.first || ltb (d + o.lag) C) || late o C d
shut o C Ncc d = (ltb d o.first || ltb (d + o.lag) C) || late o C d

-- a number of the table at the first byte of a field to be named
infixl 70 ◌strikes_if◌
abbrev pub ◌strikes_if◌ : ℕ → Bool → Field → Check
(number strikes_if condition) f = record { number = number; position = start f; holds = condition }

module _ (o : Terms) (C : ℕ) (s : List ℕ) where
  -- 4, of every field: field or count not whole
  abbrev pub not_whole : Field → Bool
  not_whole f = ltb (length s) (start f + field_bytes f)

  -- 5 to 8 by the kind of field, in order. 5: accounts from N on, more than 3 tranches, other than 1 to 4 facilities, a figure outside its range;
  -- 6: day not open, or above 36,524; 7: row repeated in its section; 8: bytes after section 4
  abbrev pub conditions : Field → List (Field → Check)
  conditions (RowCount at) = []
  conditions (Account at) = field_out_of_range strikes_if leb o.accounts (num 1 s at) ∷ []
  conditions (Day sec rows i at) = day_not_open strikes_if shut o C sec (num 2 s at) ∷ row_repeated strikes_if any i (λ j. same_key (rows j) (rows i)) ∷ []
  conditions (TrancheCount at) = field_out_of_range strikes_if ltb 3 (num 1 s at) ∷ []
  conditions (FacilityCount at) = field_out_of_range strikes_if (ltb (num 1 s at) 1 || ltb 4 (num 1 s at)) ∷ []
  conditions (Value g at) = field_out_of_range strikes_if (lt_z (value_at s at) (least g) || lt_z (most g) (value_at s at)) ∷ []
  conditions (EndOfFile at) = bytes_after_end strikes_if ltb at (length s) ∷ []

  -- the checks of a field: "whole, in range, day open, row not yet given; then the end"
  abbrev pub checks_of : Field → List Check
  checks_of f = (field_not_whole strikes_if not_whole f) f ∷ map (λ c. c f) (conditions f)

  -- those of the file, in file order
  abbrev pub checks : List Check
  checks = flat_map checks_of (fields_of s)
