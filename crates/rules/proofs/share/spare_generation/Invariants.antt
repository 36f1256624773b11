use Rattle.std.proofs.Common.{◌≡◌, true}
use Rattle.integer.specs.Below.{all, sum_ℕ}
use Rattle.integer.specs.Words.{word}
use Rattle.rulebook.specs.declared.Kind.TheVariants.{Quantity}
use Rattle.rulebook.specs.Units.{in_range}
use Rattle.rulebook.specs.Calls.{quantities_in}
use Rattle.rules.proofs.share.spare_generation.Given as goal

abbrev pub invariant-loop-u : goal.invariant-loop-u
invariant-loop-u l =
    (all l.u-index (λ i. in_range Quantity (word l.uegq i)) ≡ true) × (l.total ≡ sum_ℕ l.u-index (quantities_in l.uegq))
