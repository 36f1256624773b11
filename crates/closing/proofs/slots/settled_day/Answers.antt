-- `settled_day` meets its contract: the test picks the case.
use borrow.Author.Tests.{le-leb, lt-leb}
use Rattle.rulebook.specs.DayAmount.{settles_residual}
use Rattle.closing.specs.Slots.{settled_day}
use Rattle.closing.proofs.slots.settled_day.Goals as goal

pub returns-then-terms-formed-clause-day : goal.returns-then-terms-formed-clause-day
unfolding settled_day settles_residual
returns-then-terms-formed-clause-day c =
    let h = c.if-terms-formed.true in
    rw (← c.get-terms.ensures.same, le-leb _ _ h)

pub returns-else-terms-formed-clause-day : goal.returns-else-terms-formed-clause-day
unfolding settled_day settles_residual
returns-else-terms-formed-clause-day c =
    let h = c.if-terms-formed.false in
    rw (← c.get-terms.ensures.same, lt-leb _ _ h)
