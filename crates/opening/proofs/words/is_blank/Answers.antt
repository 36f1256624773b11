-- `is_blank` meets its contract: each word is tested.
use Rattle.std.proofs.Common.{pos, true, ◌&&◌, ◌∙◌, rules, tests}
use Rattle.std.proofs.lemmas.Iterator.{YieldsList-from_slice}
use Rattle.std.proofs.lemmas.Iterator.Consumers.{fold_from_yields_List}
use Rattle.rulebook.specs.WellFormed.{is_zero}
use Rattle.opening.specs.Blank.{blank}
use Rattle.integer.proofs.laws.TestsLaws.{tests-folded}
use Rattle.opening.proofs.words.is_blank.Goals as goal

pub returns : goal.returns
unfolding blank
returns c =
    fold_from_yields_List _ (λ ok w. ok && is_zero w) true _ c.fold.ensures.ran (YieldsList-from_slice c.args.part.now cc) (λ a x b q k. search (rules, tests))
    ∙ tests-folded is_zero (pos 0) c.args.part.now
