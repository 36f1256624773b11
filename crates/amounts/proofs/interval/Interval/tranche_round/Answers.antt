-- `tranche_round` meets its contract: a round at the tranche's TVQ takes the report's figure to the next.
use Rattle.std.proofs.Common.{arith}
use Rattle.rulebook.proofs.laws.ReportLaws.{report-round}
use Rattle.amounts.specs.Interval.{data_in}
use Rattle.amounts.proofs.laws.IntervalLaws.{tvq-word, report-le}
use Rattle.amounts.proofs.interval.Interval.tranche_round.Goals as goal

pub round-requires : goal.round-requires
round-requires c =
    let s = c.args.self in
    let t = c.args.t in
    (tvq-word s.accounts s.words.now s.ranged t c.requires.0, omega (arith, c.requires.1, c.requires.0, report-le s.accounts s.words.now s.ranged s.few t (omega arith)))

pub returns : goal.returns
returns c =
    let s = c.args.self in
    omega (arith, c.round.ensures, c.requires.1, report-round s.accounts (data_in s.words.now) c.args.t)
