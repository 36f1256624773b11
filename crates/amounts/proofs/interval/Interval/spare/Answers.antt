-- `spare` meets its contract: a round at UEGQ from 0 is S.
use Rattle.std.proofs.Common.{arith}
use Rattle.rulebook.specs.DayAmount.{spare_generation}
use Rattle.amounts.proofs.laws.IntervalLaws.{uegq-word}
use Rattle.amounts.proofs.interval.Interval.spare.Goals as goal

pub round-requires : goal.round-requires
round-requires c = let s = c.args.self in (uegq-word s.accounts s.words.now s.ranged, omega arith)

pub returns : goal.returns
unfolding spare_generation
returns c = omega (arith, c.round.ensures)
