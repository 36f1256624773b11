-- `book_size` meets its contract: the largest book has 6,188,672 words.
use native.Mathlib.Omega.{arith}
use Rattle.rulebook.specs.Layout.{interval_size, ring, base, size}
use Rattle.opening.proofs.laws.HeaderLaws.{slots_small}
use Rattle.opening.proofs.header.book_size.Goals as goal

pub overflow_mul-result-2 : goal.overflow_mul-result-2
unfolding ring
overflow_mul-result-2 c = let s = slots_small c.args.terms c.get-n.ensures.accepted in rw (c.interval_length.ensures, c.ring.ensures, c.get-n.ensures.same) (omega arith)

pub overflow_add-result : goal.overflow_add-result
unfolding ring
overflow_add-result c = let s = slots_small c.args.terms c.get-n.ensures.accepted in rw (c.balance_word.ensures, c.interval_length.ensures, c.ring.ensures, c.get-n.ensures.same) (omega arith)

pub returns : goal.returns
unfolding size base ring interval_size
returns c = rw (c.interval_length.ensures, c.balance_word.ensures, c.ring.ensures, c.get-n.ensures.same)
