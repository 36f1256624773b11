-- Document 01, "A submission file": how it is judged, its fields in file order, the first refusal standing. Assumes nothing.
use Rattle.std.specs.Prelude.{Bool, true, false, not, ◌&&◌, List, ℕ, ◌+◌, ◌-◌, eqb, leb, length, Ok, Err, Result}
use Rattle.integer.specs.Below.{fold, any}
use Rattle.rulebook.specs.declared.Section.{Section}
use Rattle.rulebook.specs.declared.Section.TheVariants.{Vesting, Meter, Residual, Ncc}
use Rattle.rulebook.specs.declared.Terms.{Terms}
use Rattle.rulebook.specs.declared.Limits.{Limits}
use Rattle.rulebook.specs.declared.Refusal.{Refusal}
use Rattle.rulebook.specs.declared.Why.{Why}
use Rattle.rulebook.specs.declared.Why.TheVariants.{NotWhole, OutOfRange, DayNotOpen, Repeated, Excess}
use Rattle.rulebook.specs.Sections.{least_count, most_count, value_in_range}
use Rattle.rulebook.specs.Layout.{window_from, window_to}
use Rattle.rulebook.specs.File.{num, account_bytes, count_bytes, day_pos, count_pos, values_pos, account_at, day_at, values_in, value_at, row_pos, rows_in, meter_pos, residual_pos, ncc_pos, end_pos, rows_width, day_width, value_width, value_pos, first_row}

-- ---- Checks in order

-- accepted, or why it is refused and where
abbrev pub Verdict : Type 0
Verdict = Result (Unit {0}) Refusal

abbrev pub refused : Why → ℕ → Verdict
refused w at = Err (record { why = w; at = at })

-- accepted where the test holds, else refused so
abbrev pub require : Bool → Why → ℕ → Verdict
require true w at = Ok tt
require false w at = refused w at

-- one check after another: the first refusal stands
infixr 5 ◌and_then◌
abbrev pub ◌and_then◌ : Verdict → Verdict → Verdict
(Ok _) and_then y = y
(Err r) and_then y = Err r

-- checks 0 to n - 1
abbrev pub up_to : ℕ → (ℕ → Verdict) → Verdict
up_to n f = fold ◌and_then◌ (Ok tt) n f

-- ---- Limits

-- where the open days of a section begin
abbrev pub open_from : Limits → Section → ℕ
open_from l Vesting = l.current
open_from l Meter = l.current
open_from l Residual = l.earliest
open_from l Ncc = l.earliest

-- a book's, C being the next day to close: days of the window, for vesting and meter rows from C on
abbrev pub limits_of : Terms → ℕ → Limits
limits_of o C = record {
  accounts = o.accounts;
  current = C;
  earliest = window_from o C;
  last = window_to o C;
}

-- ---- Fields

-- the n bytes at `at` are all there
abbrev pub is_whole : ℕ → List ℕ → ℕ → Bool
is_whole n s at = leb (at + n) (length s)

-- else 4
abbrev pub whole : ℕ → List ℕ → ℕ → Verdict
whole n s at = require (is_whole n s at) NotWhole at

-- the number v, read at `at`: from low to high, else refused for `why`
abbrev pub number_in : ℕ → ℕ → Why → ℕ → ℕ → Verdict
number_in low high why v at = require (leb low v) why at and_then require (leb v high) why at

-- a field of n bytes at `at`: whole, and its number from low to high
unfoldable pub field_in : ℕ → ℕ → ℕ → Why → List ℕ → ℕ → Verdict
field_in n low high why s at = whole n s at and_then number_in low high why (num n s at) at

-- value k of a row whose values start at `from`: whole, in range
unfoldable pub value : Section → List ℕ → ℕ → ℕ → Verdict
value sec s from k =
    whole value_width s (value_pos from k)
    and_then require (value_in_range sec k (value_at s (value_pos from k))) OutOfRange (value_pos from k)

-- ---- A row

-- account and day of the row at `at`
unfoldable pub key : Limits → Section → List ℕ → ℕ → Verdict
key l sec s at =
    field_in (account_bytes sec) 0 (l.accounts - 1) OutOfRange s at
    and_then field_in day_width (open_from l sec) l.last DayNotOpen s (day_pos sec at)

-- some row before row i of the section has account a and day d
unfoldable pub given : Section → List ℕ → ℕ → ℕ → ℕ → ℕ → Bool
given sec s first i a d = any i (λ j. eqb (account_at sec s (row_pos sec s first j)) a && eqb (day_at sec s (row_pos sec s first j)) d)

-- the rest of the row at `at`: count, then the values
unfoldable pub rest : Section → List ℕ → ℕ → Verdict
rest sec s at =
    field_in (count_bytes sec) (least_count sec) (most_count sec) OutOfRange s (count_pos sec at)
    and_then up_to (values_in sec s at) (value sec s (values_pos sec at))

-- the row at `at`, where `again` says that its account and day were given before
unfoldable pub row_after : Limits → Section → List ℕ → ℕ → Bool → Verdict
row_after l sec s at again =
    key l sec s at
    and_then require (not again) Repeated (day_pos sec at)
    and_then rest sec s at

-- row i of a section whose first row is at `first`
unfoldable pub judged_row : Limits → Section → List ℕ → ℕ → ℕ → Verdict
judged_row l sec s first i =
    row_after l sec s (row_pos sec s first i)
    (given sec s first i (account_at sec s (row_pos sec s first i)) (day_at sec s (row_pos sec s first i)))

-- ---- Sections and file

-- the section at `at`: its count whole, then its rows
unfoldable pub judged_section : Limits → Section → List ℕ → ℕ → Verdict
judged_section l sec s at = whole rows_width s at and_then up_to (rows_in s at) (judged_row l sec s (first_row at))

-- the four sections, and no byte after them
unfoldable pub judged : Limits → List ℕ → Verdict
judged l s =
    judged_section l Vesting s 0
    and_then judged_section l Meter s (meter_pos s)
    and_then judged_section l Residual s (residual_pos s)
    and_then judged_section l Ncc s (ncc_pos s)
    and_then require (leb (length s) (end_pos s)) Excess (end_pos s)
