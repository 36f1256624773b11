use Rattle.std.proofs.Common.{◌≡◌, ◌&&◌, ◌+◌, ◌*◌, pos}
use Rattle.std.specs.Prelude.{◌||◌}
use Rattle.std.specs.Int.Signed.{lt_z}
use Rattle.integer.specs.Below.{all}
use Rattle.integer.specs.Words.{word}
use Rattle.rulebook.specs.WellFormed.{is_zero}
use Rattle.book.proofs.cell.rest_zero.Given as goal

abbrev pub invariant-loop-p : goal.invariant-loop-p
invariant-loop-p l = l.ok ≡ all l.p (λ q. lt_z (pos q) (word l.row 0) || (is_zero (word l.row (1 + 2 * q)) && is_zero (word l.row (2 + 2 * q))))
