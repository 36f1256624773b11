-- `item` meets its contract: the bytes from a position on are the rest of the input.
use mathlib.Core.Path.{◌≡◌}
use Prim.Native.Nat.{ℕ, ◌-◌}
use mathlib.Core.List.{List}
use native.Mathlib.Omega.{arith}
use lib.ListN.{length, take, drop, length-drop}
use lib.Seq.{take_all}
use Rattle.replay_settle.proofs.item.Goals as goal

rest : (s : List ℕ) (k : ℕ) → take (length s - k) (drop k s) ≡ drop k s
rest s k = take_all (length s - k) (drop k s) (omega (arith, length-drop k s))

pub returns : goal.returns
returns c = let g = c.args in rw (rest g.s.now g.turn.position) at c.perform.ensures
