-- `all_in_range` meets its contract: the test of each word, joined from the left as from the right.
use Rattle.std.proofs.Common.{rules, tests, ◌∙◌}
use Rattle.std.proofs.lemmas.Iterator.{YieldsList-from_slice}
use Rattle.std.proofs.lemmas.Iterator.Search.{all_from_yields_List}
use Rattle.rulebook.specs.Units.{in_range}
use Rattle.rulebook.specs.Calls.{all_in_range}
use Rattle.rules.proofs.laws.ToldLaws.{all_listed}
use Rattle.rules.proofs.ranges.all_in_range.Goals as goal

pub returns : goal.returns
unfolding all_in_range
returns c =
    let xs = c.args.xs.now in
    all_from_yields_List (in_range c.args.kind) _ _ c.all.result c.all.ensures.ran (YieldsList-from_slice xs cc) (λ x b q k. search (rules, tests)) ∙ all_listed (in_range c.args.kind) xs
