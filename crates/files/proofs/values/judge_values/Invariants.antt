use Rattle.std.proofs.Common.{◌≡◌, ◌*◌, ◌≤◌, drop, length, Ok}
use Rattle.rulebook.specs.Judging.{up_to}
use Rattle.files.specs.Values.{value_in}
use Rattle.files.proofs.values.judge_values.Given as goal

abbrev pub invariant-loop-k : goal.invariant-loop-k
invariant-loop-k l =
    (goal.iterator-loop-k).can_next l.k-iterator × (goal.iterator-loop-k).is_finite l.k-iterator
    × (l.k-iterator.iter.size ≡ 4)
    × (l.k-iterator.iter.rest.now ≡ drop (4 * l.k-iterator.count) l.part)
    × (4 * l.k-iterator.count ≤ length l.part)
    × (up_to l.k-iterator.count (value_in l.section l.part l.from) ≡ Ok tt)
