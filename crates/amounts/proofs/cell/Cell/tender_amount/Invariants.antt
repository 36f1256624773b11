use Rattle.std.proofs.Common.{◌≡◌, List, ℕ, ℤ, pos, ◌+◌, ◌*◌, ◌-ℤ◌, ◌*ℤ◌, ◌≤◌}
use Rattle.integer.specs.Below.{sum_ℤ}
use Rattle.integer.specs.Words.{word}
use Rattle.rulebook.specs.Units.{as_quantity}
use Rattle.amounts.proofs.cell.Cell.tender_amount.Given as goal

-- tender t's amount
abbrev pub one : List ℤ → ℤ → ℕ → ℤ
one c v t = (word c (4 + 2 * t) -ℤ v) *ℤ pos (as_quantity (word c (3 + 2 * t)))

abbrev pub invariant-loop-quantity : goal.invariant-loop-quantity
invariant-loop-quantity l = (l.quantity-index ≤ 3) × (l.total ≡ sum_ℤ l.quantity-index (one l.self.words.now l.v))
