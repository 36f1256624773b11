-- `pairs_in_range` meets its contract: each pair is tested.
use Rattle.std.proofs.Common.{◌&&◌, true, List, ℤ, ap, ap₂, ◌∙◌, rules, tests}
use Rattle.std.specs.Simd.{first_chunks}
use Rattle.std.proofs.lemmas.Iterator.{YieldsList-from_slice}
use Rattle.std.proofs.lemmas.Iterator.Consumers.{fold_from_yields_List}
use Rattle.integer.specs.Words.{word, part}
use Rattle.rulebook.specs.Units.{in_range}
use Rattle.rulebook.specs.RowPairs.{row_pairs, pairs_in_range}
use Rattle.rulebook.proofs.laws.TestLaws.{all_same}
use Rattle.integer.proofs.laws.TestsLaws.{fold-all}
use Rattle.opening.proofs.laws.ChunkLaws.{all_chunks}
use Rattle.book.proofs.laws.PairLaws.{pairs-lent, pair-first, pair-second}
use Rattle.book.proofs.cell.pairs_in_range.Goals as goal

pub returns : goal.returns
unfolding pairs_in_range
returns c =
    let row = c.args.row.now in
    let first = c.args.first in
    let second = c.args.second in
    let test = λ (pair : List ℤ). in_range first (word pair 0) && in_range second (word pair 1) in
    fold_from_yields_List _ (λ ok pair. ok && test pair) true _ c.fold.ensures.ran
    (YieldsList-from_slice (first_chunks 2 row_pairs (part row 1 8)) (c.iter.ensures.rest ∙ c.as_chunks.ensures.front ∙ pairs-lent row c.told-row)) (λ a x b q k. search (rules, tests))
    ∙ fold-all test true (first_chunks 2 row_pairs (part row 1 8)) ∙ all_chunks test 2 row_pairs (part row 1 8)
    ∙ all_same row_pairs _ _ (λ p h. ap₂ ◌&&◌ (ap (in_range first) (pair-first row p h)) (ap (in_range second) (pair-second row p h)))
