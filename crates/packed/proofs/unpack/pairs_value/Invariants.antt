use Rattle.std.proofs.Common.{◌≡◌, ◌+◌, ◌*◌, ◌^◌, ◌≤◌, get_or}
use Rattle.integer.specs.Below.{turns}
use Rattle.packed.specs.Pairs.{pairs, with_pair}
use Rattle.packed.proofs.unpack.pairs_value.Given as goal

abbrev pub invariant-loop-b : goal.invariant-loop-b
invariant-loop-b l = (l.b-index ≤ pairs) × (l.n ≡ turns l.b-index (λ k m. with_pair m (get_or l.field (0 + k) 0)) 0) × (l.n + 2 ≤ 2 * 100 ^ l.b-index)
