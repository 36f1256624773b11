-- `allows` meets its contract: its limits are those of `total_possible`, and 24 times the larger one is at most 300,000,000.
use Rattle.rulebook.specs.Profile.{total_possible}
use Rattle.rules.proofs.profile.Contracted.allows.Goals as goal

pub returns : goal.returns
unfolding total_possible
returns c = rw (c.least_kwh.ensures, c.most_kwh.ensures)
