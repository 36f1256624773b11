use Rattle.std.specs.Prelude.{◌≡◌, List, ℕ, ◌<◌, ℤ}
use Rattle.integer.specs.Words.{word}
use Rattle.integer.specs.Below.{turns}
use Rattle.replay.specs.Digests.{more_word}
use Rattle.replay.proofs.output.digest_of.Given as goal

-- one word more
abbrev pub step : List ℤ → ℕ → ℕ → ℕ
step list i d = more_word d (word list i)

abbrev pub invariant-loop-z : goal.invariant-loop-z
invariant-loop-z l = (l.d < 2147483647) × (l.d ≡ turns l.z-index (step l.list) 1)
