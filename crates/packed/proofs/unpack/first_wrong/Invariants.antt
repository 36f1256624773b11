use Rattle.std.specs.Prelude.{None}
use Rattle.std.proofs.Common.{◌≡◌, ◌*◌}
use Rattle.integer.specs.Below.{first}
use Rattle.packed.specs.Packed.{field_bytes, wrong_in}
use Rattle.packed.proofs.unpack.first_wrong.Given as goal

abbrev pub invariant-loop-f : goal.invariant-loop-f
invariant-loop-f l = first l.f (λ k. wrong_in l.s (field_bytes * k)) ≡ None
