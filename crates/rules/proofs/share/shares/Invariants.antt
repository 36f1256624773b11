use Rattle.std.proofs.Common.{◌≡◌, ◌*◌, ◌≤◌, length}
use Rattle.integer.specs.Below.{sum_ℕ}
use Rattle.integer.specs.Words.{filled}
use Rattle.rulebook.specs.declared.Edition.TheVariants.{Second}
use Rattle.rulebook.specs.Units.{most_quantity}
use Rattle.rulebook.specs.Shares.{share_of}
use Rattle.rulebook.specs.Calls.{quantities_in, share_word}
use Rattle.rules.proofs.share.shares.Given as goal

abbrev pub invariant-loop-a : goal.invariant-loop-a
invariant-loop-a l =
    (length l.output ≡ length l.initial.output)
    × (l.sum ≡ sum_ℕ l.a (quantities_in l.uegq)) × (l.sum ≤ l.a * most_quantity)
    × (l.given ≤ l.sum) × (l.edition ≡ Second → l.given ≡ share_of l.residual.load l.residual.spare l.sum)
    × (l.output ≡ filled l.a (share_word l.edition l.r l.uegq) l.initial.output)
