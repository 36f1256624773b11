-- Where rows stand, and that those of an accepted section lie within the file. Assumes nothing.
use Rattle.std.specs.Prelude.{◌≡◌, refl, List, ℕ, zero, suc, ◌+◌, ◌-◌, ◌≤◌, length, Ok}
use Rattle.std.proofs.Common.{⊎_elim, arith}
use Rattle.integer.specs.Below.{turns}
use Rattle.integer.proofs.laws.BelowLaws.{lt_or_le}
use Rattle.rulebook.specs.declared.Section.{Section}
use Rattle.rulebook.specs.declared.Limits.{Limits}
use Rattle.rulebook.specs.File.{row_end, row_pos, rows_in, section_end, values_in}
use Rattle.rulebook.specs.Judging.{judged_section}
use Rattle.rulebook.proofs.laws.JudgingLaws.{Fine, section-start, section-row}

pub pos-zero : (sec : Section) (s : List ℕ) (first : ℕ) → row_pos sec s first 0 ≡ first
unfolding row_pos turns
pos-zero sec s first = refl

-- a row stands where the one before it ends
pub pos-suc : (sec : Section) (s : List ℕ) (first i : ℕ) → row_pos sec s first (suc i) ≡ row_end sec s (row_pos sec s first i)
unfolding row_pos turns
pos-suc sec s first i = refl

pub row-end : (l : Limits) (sec : Section) (s : List ℕ) (at : ℕ) → Fine l sec s at → row_end sec s at ≤ length s
unfolding row_end
row-end l sec s at f =
    ⊎_elim (λ h. let v = (f.each (values_in sec s at - 1) (omega arith)).whole in omega arith)
    (λ h. let c = f.count.whole in omega arith)
    (lt_or_le 0 (values_in sec s at))

module _ (l : Limits) (sec : Section) (s : List ℕ) (at : ℕ) (e : judged_section l sec s at ≡ (Ok tt)) where
  row_in-file : (i : ℕ) → i ≤ rows_in s at → row_pos sec s (at + 2) i ≤ length s
  row_in-file zero h = rw pos-zero (section-start l sec s at e)
  row_in-file (suc i) h = rw pos-suc (row-end l sec s (row_pos sec s (at + 2) i) (section-row l sec s at e i h).1)

  pub section-end : section_end sec s at ≤ length s
  unfolding section_end
  section-end = row_in-file (rows_in s at) (omega arith)
