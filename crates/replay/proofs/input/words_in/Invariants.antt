use Rattle.std.specs.Prelude.{◌≡◌, List, ℕ, ◌*◌, ℤ, length}
use Rattle.integer.specs.Words.{filled}
use Rattle.replay.specs.Fields.{word_in}
use Rattle.replay.proofs.input.words_in.Given as goal

-- word k of the bytes
abbrev pub spelled : List ℕ → ℕ → ℤ
spelled bytes k = word_in bytes (8 * k)

abbrev pub invariant-loop-i : goal.invariant-loop-i
invariant-loop-i l = (length l.list ≡ length l.initial.list) × (l.list ≡ filled l.i (spelled l.bytes) l.initial.list)
