-- `edition_of` meets its contract: the test picks the case.
use Rattle.rulebook.specs.DayAmount.{edition_of}
use Rattle.closing.proofs.slots.edition_of.Goals as goal

pub returns-then-terms-settled : goal.returns-then-terms-settled
unfolding edition_of
returns-then-terms-settled c = rw c.if-terms-settled.true

pub returns-else-terms-settled : goal.returns-else-terms-settled
unfolding edition_of
returns-else-terms-settled c = rw c.if-terms-settled.false
