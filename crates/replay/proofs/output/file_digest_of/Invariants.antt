use Rattle.std.specs.Prelude.{◌≡◌, List, ℕ, ◌<◌, get_or}
use Rattle.integer.specs.Below.{turns}
use Rattle.replay.specs.Digests.{more}
use Rattle.replay.proofs.output.file_digest_of.Given as goal

-- one byte more
abbrev pub step : List ℕ → ℕ → ℕ → ℕ
step file i d = more d (get_or file i 0)

abbrev pub invariant-loop-b : goal.invariant-loop-b
invariant-loop-b l = (l.d < 2147483647) × (l.d ≡ turns l.b-index (step l.file) 1)
