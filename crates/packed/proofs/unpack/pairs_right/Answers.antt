-- `pairs_right` meets its contract: every byte but the last is tested.
use Rattle.std.proofs.Common.{true, ◌&&◌, ℕ, ◌+◌, ap, ◌∙◌, take, get_or, rules, tests}
use Rattle.std.proofs.lemmas.Iterator.{YieldsList-from_slice}
use Rattle.std.proofs.lemmas.Iterator.Consumers.{fold_from_yields_List}
use Rattle.integer.specs.Below.{all}
use Rattle.integer.proofs.laws.BelowLaws.{fold-cong}
use Rattle.packed.specs.Pairs.{is_pair}
use Rattle.packed.proofs.laws.PairLaws.{pair-read, length-pairs}
use Rattle.integer.proofs.laws.TestsLaws.{tests-folded}
use Rattle.packed.proofs.unpack.pairs_right.Goals as goal

pub returns : goal.returns
returns c =
    let s = c.args.field.now in
    fold_from_yields_List _ (λ right b. right && is_pair b) true _ c.fold.ensures.ran (YieldsList-from_slice (take 7 s) cc) (λ a x b q k. search (rules, tests))
    ∙ tests-folded is_pair 0 (take 7 s)
    ∙ ap (λ (n : ℕ). all n (λ k. is_pair (get_or (take 7 s) k 0))) (length-pairs s c.told-field)
    ∙ fold-cong ◌&&◌ true 7 _ (λ k. is_pair (get_or s (0 + k) 0)) (λ k l. ap is_pair (pair-read s k l))
