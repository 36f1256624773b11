use Rattle.std.proofs.Common.{◌≡◌, length}
use Rattle.integer.specs.Words.{grid}
use Rattle.submission.specs.Stored.{row_from}
use Rattle.submission.proofs.store.Form.put_row.Given as goal

abbrev pub invariant-loop-i : goal.invariant-loop-i
invariant-loop-i l = (length l.book ≡ length l.initial.book) × (l.book ≡ grid l.start l.stride l.self.words (row_from l.self l.values 0) l.i l.initial.book)
