use Rattle.std.specs.Prelude.{◌≡◌}
use Rattle.integer.specs.Below.{sum_ℤ}
use Rattle.integer.specs.Words.{word}
use Rattle.closing.proofs.statement.amounts_sum.Given as goal

abbrev pub invariant-loop-amount : goal.invariant-loop-amount
invariant-loop-amount l = l.sum ≡ sum_ℤ l.amount-index (word l.amounts)
