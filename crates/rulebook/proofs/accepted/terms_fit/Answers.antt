-- `terms_fit` meets its contract: its tests are those of `terms_fit`.
use Rattle.rulebook.specs.Terms.{terms_fit}
use Rattle.rulebook.proofs.accepted.terms_fit.Goals as goal

pub returns : goal.returns
unfolding terms_fit
returns c = let e = c.change_fits.ensures in cc
