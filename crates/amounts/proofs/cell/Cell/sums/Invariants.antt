use Rattle.std.proofs.Common.{◌≡◌}
use Rattle.rules.specs.PriceSums.{sums_of}
use Rattle.amounts.specs.Cell.{cell_data}
use Rattle.amounts.proofs.cell.Cell.sums.Given as goal

abbrev pub invariant-loop-mep : goal.invariant-loop-mep
invariant-loop-mep l = l.sums ≡ sums_of l.mep-index (cell_data l.self.words.now).mep (cell_data l.self.words.now).ieq
