use Rattle.std.proofs.Common.{◌≡◌, length}
use Rattle.integer.specs.Words.{filled}
use Rattle.submission.specs.Stored.{word_from}
use Rattle.submission.proofs.store.Form.put.Given as goal

abbrev pub invariant-loop-j : goal.invariant-loop-j
invariant-loop-j l = (length l.words ≡ length l.initial.words) × (l.words ≡ filled l.j (word_from l.self l.values 0) l.initial.words)
