use Rattle.std.proofs.Common.{◌≡◌, ◌-◌, ◌/◌, ◌^◌, ◌++◌, length, take, drop}
use Rattle.integer.specs.Below.{tabulate}
use Rattle.packed.specs.Pairs.{pair_at}
use Rattle.packed.proofs.pack.put_pairs.Given as goal

abbrev pub invariant-loop-i : goal.invariant-loop-i
invariant-loop-i l = (l.rest ≡ l.n / 100 ^ (length l.initial.bytes - l.i)) × (l.bytes ≡ take l.i l.initial.bytes ++ drop l.i (tabulate (length l.initial.bytes) (pair_at l.n (length l.initial.bytes))))
