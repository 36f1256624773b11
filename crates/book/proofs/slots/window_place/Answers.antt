-- `window_place` meets its contract: its arithmetic is that of `window_place`.
use Rattle.std.proofs.Common.{refl, arith}
use Rattle.std.proofs.Math.Nat.{mod-lt}
use Rattle.rulebook.specs.Layout.{ring}
use Rattle.rulebook.specs.WindowWalk.{window_place}
use Rattle.book.proofs.slots.window_place.Goals as goal

pub overflow_add-result : goal.overflow_add-result
unfolding ring
overflow_add-result c = let t = c.get.ensures.accepted in omega arith

pub returns : goal.returns
unfolding ring window_place
returns c =
    let t = c.get.ensures.accepted in
    rw (c.ring-ring.ensures, c.get.ensures.same) (refl, mod-lt _ (omega arith))
