-- `slot_start` meets its contract: a slot is below L + H, so its words are few.
use native.Mathlib.Omega.{arith}
use Rattle.rulebook.specs.Layout.{base, ring, slot, interval_word, slot_start}
use Rattle.book.proofs.places.slot_start.Goals as goal

pub returns : goal.returns
unfolding slot_start interval_word base slot ring
returns c = rw (← c.interval_size.ensures.0, c.balance_word.ensures, c.ring.ensures, c.get.ensures.same, c.get-2.ensures.same) (omega arith)
