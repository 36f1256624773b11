-- What writing returns, number by number, and where each byte stands. Rests on StatementLaws. Assumes nothing.
use Rattle.std.specs.Prelude.{◌≡◌, Bool, List, ◌++◌, ◌↔◌, ℕ, ◌*◌, ◌≤◌, ◌<◌, leb, eqb, ℤ, drop}
use Rattle.std.proofs.Math.Path.{refl}
use Rattle.std.proofs.Math.Bool.{true, false}
use Rattle.std.proofs.Common.{⊎_elim, arith}
use borrow.Author.Tests.{le-leb, leb-true}
use Rattle.std.proofs.Math.ListN.{length}
use Rattle.integer.proofs.laws.BelowLaws.{lt_or_le}
use Rattle.rulebook.specs.Numbers.{accepted, outside_range, output_too_short, checked}
use Rattle.rulebook.proofs.laws.CheckedLaws.{struck, met, met-last, then}
use Rattle.packed.specs.Packed.{statement_fits, field_bytes, fields_of, Packed, pack_call}
use Rattle.packed.specs.PackedTable.{Statement, PackTable}
use Rattle.packed.proofs.laws.StatementLaws.{statement-is, statement-fits}

not_le : (a b : ℕ) → (¬ (a ≤ b)) ↔ (b < a)
not_le a b = (λ n. ⊎_elim (λ l. l) (λ l. absurd (n l)) (lt_or_le b a), λ l m. omega arith)

module _ (amounts : List ℤ) (output : List ℕ) where
  abbrev outside : Packed
  outside = record { number = outside_range; output = output }

  abbrev short : Packed
  short = record { number = output_too_short; output = output }

  abbrev done : Packed
  done = record { number = accepted; output = fields_of amounts ++ drop (field_bytes * length amounts) output }

  abbrev room : Bool
  room = leb (field_bytes * length amounts) (length output)

  abbrev number_of : Packed → ℕ
  number_of p = p.number

  is_statement : (statement_fits amounts ≡ true) ↔ Statement amounts
  is_statement = (statement-is amounts, statement-fits amounts)

  has_room : (room ≡ true) ↔ (field_bytes * length amounts ≤ length output)
  has_room = (leb-true (field_bytes * length amounts) (length output), le-leb (field_bytes * length amounts) (length output))

  not_1 : (t : Bool) → eqb (number_of (checked t short done)) outside_range ≡ false
  not_1 true = refl
  not_1 false = refl

  -- a statement, with room for it, is written
  pub pack-done : Statement amounts → field_bytes * length amounts ≤ length output → pack_call amounts output ≡ done
  unfolding pack_call
  pack-done s r = rw (statement-fits amounts s, le-leb (field_bytes * length amounts) (length output) r)

  -- what was written is such a statement
  pub pack-given : (pack_call amounts output).number ≡ accepted → (Statement amounts) × (field_bytes * length amounts ≤ length output)
  unfolding pack_call
  pack-given e = by (statement_fits amounts) refl room refl e
    where
      by : (t : Bool) → statement_fits amounts ≡ t → (r : Bool) → room ≡ r → (checked t outside (checked r short done)).number ≡ accepted → (Statement amounts) × (field_bytes * length amounts ≤ length output)
      by true f true g e = (statement-is amounts f, leb-true (field_bytes * length amounts) (length output) g)
      by true f false g e = absurd (omega arith)
      by false f r g e = absurd (omega arith)

  pub pack-table : PackTable amounts output
  unfolding pack_call
  pack-table = record {
    outside = struck number_of (statement_fits amounts) is_statement outside (checked room short done) (not_1 room);
    short =
        then (met number_of (statement_fits amounts) is_statement outside (checked room short done) short refl)
        (let s = struck number_of room has_room short done refl in let n = not_le (field_bytes * length amounts) (length output) in (λ e. n.0 (s.0 e), λ l. s.1 (n.1 l)));
    written = then (met number_of (statement_fits amounts) is_statement outside (checked room short done) done refl) (met-last number_of room has_room short done refl);
  }
