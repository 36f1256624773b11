use Rattle.std.proofs.Common.{◌≡◌}
use Rattle.integer.specs.Words.{word, grid}
use Rattle.packed.specs.Packed.{field_bytes, field_byte}
use Rattle.packed.proofs.pack.put_fields.Given as goal

abbrev pub invariant-loop-i : goal.invariant-loop-i
invariant-loop-i l = l.output ≡ grid 0 field_bytes field_bytes (λ k. field_byte (word l.amounts k)) l.i l.initial.output
