-- What an accepted field, row, section and file say. Assumes nothing.
use Rattle.std.specs.Prelude.{◌≡◌, refl, Bool, true, false, not, List, ℕ, ◌+◌, ◌*◌, ◌-◌, ◌≤◌, ◌<◌, leb, length, Ok, Err}
use Rattle.std.proofs.Common.{arith}
use borrow.Author.Tests.{leb-true, not-true}
use Rattle.integer.proofs.laws.BelowLaws.{fold-each}
use Rattle.rulebook.specs.declared.Section.{Section}
use Rattle.rulebook.specs.declared.Section.TheVariants.{Vesting, Meter, Residual, Ncc}
use Rattle.rulebook.specs.declared.Limits.{Limits}
use Rattle.rulebook.specs.declared.Why.{Why}
use Rattle.rulebook.specs.declared.Why.TheVariants.{NotWhole, OutOfRange, DayNotOpen, Repeated, Excess}
use Rattle.rulebook.specs.Judging.{Verdict}
use Rattle.rulebook.specs.Units.{in_range}
use Rattle.rulebook.specs.Sections.{least_count, most_count, kind_of}
use Rattle.rulebook.specs.File.{num, account_bytes, count_bytes, day_pos, count_pos, values_pos, account_at, day_at, values_in, value_at, row_pos, rows_in, meter_pos, residual_pos, ncc_pos, end_pos}
use Rattle.rulebook.specs.Judging.{open_from, require, ◌and_then◌, up_to, field_in, value, key, given, rest, row_after, judged_row, judged_section, judged}

-- ---- Checks

pub then_both : (x y : Verdict) → x and_then y ≡ (Ok tt) → (x ≡ (Ok tt)) × (y ≡ (Ok tt))
then_both (Ok tt) y e = (refl, e)
then_both (Err r) y e = absurd (let z : ◌≡◌ {A = ℕ} 0 1 = cc in omega arith)

pub require-true : (b : Bool) (w : Why) (p : ℕ) → require b w p ≡ (Ok tt) → b ≡ true
require-true true w p e = refl
require-true false w p e = absurd (let z : ◌≡◌ {A = ℕ} 0 1 = cc in omega arith)

-- an accepted check, and the checks after it
pub checked : (b : Bool) (w : Why) (p : ℕ) (y : Verdict) → require b w p and_then y ≡ (Ok tt) → (b ≡ true) × (y ≡ (Ok tt))
checked true w p y e = (refl, e)
checked false w p y e = absurd (let z : ◌≡◌ {A = ℕ} 0 1 = cc in omega arith)

-- where all were accepted, each was
pub up_each : (n : ℕ) (f : ℕ → Verdict) → up_to n f ≡ (Ok tt) → (i : ℕ) → i < n → f i ≡ (Ok tt)
up_each = fold-each ◌and_then◌ (Ok tt) then_both

-- ---- Fields

module _ (n low high : ℕ) (why : Why) (s : List ℕ) (at : ℕ) where
  pub record FieldFine : Type 0 where
    pub whole : at + n ≤ length s
    pub from : low ≤ num n s at
    pub to : num n s at ≤ high

  pub field-says : field_in n low high why s at ≡ (Ok tt) → FieldFine
  unfolding field_in
  field-says e =
      let p = checked (leb (at + n) (length s)) NotWhole at _ e in
      let q = checked (leb low (num n s at)) why at _ p.1 in
      record {
        whole = leb-true _ _ p.0;
        from = leb-true _ _ q.0;
        to = leb-true _ _ (require-true (leb (num n s at) high) why at q.1);
      }

pub record Value (sec : Section) (s : List ℕ) (from k : ℕ) : Type 0 where
  pub whole : from + 4 * k + 4 ≤ length s
  pub ranged : in_range (kind_of sec k) (value_at s (from + 4 * k)) ≡ true

pub value-says : (sec : Section) (s : List ℕ) (from k : ℕ) → value sec s from k ≡ (Ok tt) → Value sec s from k
unfolding value
value-says sec s from k e =
    let p = checked (leb (from + 4 * k + 4) (length s)) NotWhole (from + 4 * k) _ e in
    record { whole = leb-true _ _ p.0; ranged = require-true _ OutOfRange (from + 4 * k) p.1 }

-- ---- Rows

pub record Keyed (l : Limits) (sec : Section) (s : List ℕ) (at : ℕ) : Type 0 where
  pub account : FieldFine (account_bytes sec) 0 (l.accounts - 1) OutOfRange s at
  pub day : FieldFine 2 (open_from l sec) l.last DayNotOpen s (day_pos sec at)

pub keyed : (l : Limits) (sec : Section) (s : List ℕ) (at : ℕ) → key l sec s at ≡ (Ok tt) → Keyed l sec s at
unfolding key
keyed l sec s at e =
    let p = then_both (field_in (account_bytes sec) 0 (l.accounts - 1) OutOfRange s at) _ e in
    record { account = field-says _ _ _ _ _ _ p.0; day = field-says _ _ _ _ _ _ p.1 }

-- what the row at `at` says where it is accepted
pub record Fine (l : Limits) (sec : Section) (s : List ℕ) (at : ℕ) : Type 0 where
  pub named : Keyed l sec s at
  pub count : FieldFine (count_bytes sec) (least_count sec) (most_count sec) OutOfRange s (count_pos sec at)
  pub each : (k : ℕ) → k < values_in sec s at → Value sec s (values_pos sec at) k

pub row_fine : (l : Limits) (sec : Section) (s : List ℕ) (at : ℕ) (again : Bool) → row_after l sec s at again ≡ (Ok tt) → (again ≡ false) × Fine l sec s at
unfolding row_after rest
row_fine l sec s at again e =
    let p = then_both (key l sec s at) _ e in
    let q = checked (not again) Repeated (day_pos sec at) _ p.1 in
    let r = then_both (field_in (count_bytes sec) (least_count sec) (most_count sec) OutOfRange s (count_pos sec at)) _ q.1 in (
      not-true again q.0,
      record {
        named = keyed l sec s at p.0;
        count = field-says _ _ _ _ _ _ r.0;
        each = λ k h. value-says sec s (values_pos sec at) k (up_each (values_in sec s at) (value sec s (values_pos sec at)) r.1 k h);
      },
    )

-- ---- Sections and file

-- row i of an accepted section is fine, and no row before it has its account and day
module _ (l : Limits) (sec : Section) (s : List ℕ) (at : ℕ) (e : judged_section l sec s at ≡ (Ok tt)) where
  pub section-start : at + 2 ≤ length s
  unfolding judged_section
  section-start = leb-true _ _ (checked (leb (at + 2) (length s)) NotWhole at _ e).0

  pub section-row : (i : ℕ) → i < rows_in s at
      → (given sec s (at + 2) i (account_at sec s (row_pos sec s (at + 2) i)) (day_at sec s (row_pos sec s (at + 2) i)) ≡ false) × Fine l sec s (row_pos sec s (at + 2) i)
  unfolding judged_section judged_row
  section-row i h = row_fine l sec s (row_pos sec s (at + 2) i) _
      (up_each (rows_in s at) (judged_row l sec s (at + 2)) (checked (leb (at + 2) (length s)) NotWhole at _ e).1 i h)

-- the four sections of an accepted file, and its end
pub record Sections (l : Limits) (s : List ℕ) : Type 0 where
  pub vesting : judged_section l Vesting s 0 ≡ (Ok tt)
  pub meter : judged_section l Meter s (meter_pos s) ≡ (Ok tt)
  pub residual : judged_section l Residual s (residual_pos s) ≡ (Ok tt)
  pub ncc : judged_section l Ncc s (ncc_pos s) ≡ (Ok tt)
  pub ends : length s ≤ end_pos s

pub sections : (l : Limits) (s : List ℕ) → judged l s ≡ (Ok tt) → Sections l s
unfolding judged
sections l s e =
    let p = then_both (judged_section l Vesting s 0) _ e in
    let q = then_both (judged_section l Meter s (meter_pos s)) _ p.1 in
    let r = then_both (judged_section l Residual s (residual_pos s)) _ q.1 in
    let u = then_both (judged_section l Ncc s (ncc_pos s)) _ r.1 in
    record { vesting = p.0; meter = q.0; residual = r.0; ncc = u.0; ends = leb-true _ _ (require-true (leb (length s) (end_pos s)) Excess (end_pos s) u.1) }
