use Rattle.std.proofs.Common.{◌≡◌, ◌*◌}
use Rattle.integer.specs.Words.{filled}
use Rattle.packed.specs.Packed.{field_bytes, amount_at}
use Rattle.packed.proofs.unpack.put_amounts.Given as goal

abbrev pub invariant-loop-f : goal.invariant-loop-f
invariant-loop-f l = l.word-items ≡ filled l.f (λ k. amount_at l.s (field_bytes * k)) l.initial.word-items
