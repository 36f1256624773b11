-- `base_round` meets its contract: a round at BVQ from 0 is the report's first figure.
use Rattle.std.proofs.Common.{arith}
use Rattle.rulebook.proofs.laws.ReportLaws.{report-base}
use Rattle.amounts.specs.Interval.{data_in}
use Rattle.amounts.proofs.laws.IntervalLaws.{bvq-word}
use Rattle.amounts.proofs.interval.Interval.base_round.Goals as goal

pub round-requires : goal.round-requires
round-requires c = let s = c.args.self in (bvq-word s.accounts s.words.now s.ranged, omega arith)

pub returns : goal.returns
returns c = let s = c.args.self in omega (arith, c.round.ensures, report-base s.accounts (data_in s.words.now))
