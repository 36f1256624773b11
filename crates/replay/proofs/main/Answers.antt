-- `main`: the book has its length.
use mathlib.Core.Path.{sym}
use lib.IntN.{ℤ, pos}
use lib.ListN.{length-replicate}
use Rattle.replay.proofs.main.Goals as goal

pub slice_bounds-run-end : goal.slice_bounds-run-end
slice_bounds-run-end c = sym (length-replicate {0} {A = ℤ} 802000 (pos 0))
