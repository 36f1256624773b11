use Rattle.std.proofs.Common.{◌≡◌, true, length}
use Rattle.integer.specs.Below.{all}
use Rattle.book.specs.Slots.{slot_told}
use Rattle.book.proofs.slots.slots_fit.Given as goal

abbrev pub invariant-loop-v : goal.invariant-loop-v
invariant-loop-v l =
    (l.n ≡ l.terms.accounts) × (all (length l.yielded) (slot_told l.terms l.closes l.slots) ≡ true)
