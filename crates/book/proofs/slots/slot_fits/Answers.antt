-- `slot_fits` meets its contract.
use Rattle.book.specs.Parts.{day_fits}
use Rattle.book.proofs.slots.slot_fits.Goals as goal

pub returns-in-Some : goal.returns-in-Some
unfolding day_fits
returns-in-Some c = rw (c.in-Some.is, c.intervals_fit.ensures)

pub returns-in-None : goal.returns-in-None
unfolding day_fits
returns-in-None c = rw (c.in-None.is, c.are_blank.ensures)
