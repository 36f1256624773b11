use Rattle.std.proofs.Common.{◌≡◌, length}
use Rattle.integer.specs.Words.{word}
use Rattle.rules.specs.PriceSums.{sums_of}
use Rattle.rules.proofs.price.sums_of.Given as goal

abbrev pub invariant-loop-m : goal.invariant-loop-m
invariant-loop-m l =
    (goal.iterator-loop-m).can_next l.m-iterator × (goal.iterator-loop-m).is_finite l.m-iterator × (l.sums ≡ sums_of (length l.yielded) (word l.mep) (word l.ieq))
