-- `hedge_total` meets its contract: the report's last figure is the hedge total.
use Rattle.std.proofs.Common.{ap, ◌∙◌}
use Rattle.rulebook.proofs.laws.ReportLaws.{report-total}
use Rattle.amounts.specs.declared.interval.HedgeReport.{HedgeReport}
use Rattle.amounts.specs.Interval.{data_in}
use Rattle.amounts.proofs.interval.Interval.hedge_total.Goals as goal

pub returns : goal.returns
returns c = let s = c.args.self in ap (λ (r : HedgeReport). r.third) c.hedge_report.ensures ∙ report-total s.accounts (data_in s.words.now)
