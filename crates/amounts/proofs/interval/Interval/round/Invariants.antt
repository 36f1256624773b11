use Rattle.std.proofs.Common.{◌≡◌, ◌+◌, ◌*◌, ◌≤◌}
use Rattle.rulebook.specs.Units.{most_quantity}
use Rattle.amounts.specs.Interval.{quantities_at}
use Rattle.amounts.proofs.interval.Interval.round.Given as goal

abbrev pub invariant-loop-cell : goal.invariant-loop-cell
invariant-loop-cell l =
    (l.figure ≡ l.before + quantities_at l.cell-index l.self.words.now l.at) × (l.figure ≤ l.before + l.cell-index * most_quantity)
