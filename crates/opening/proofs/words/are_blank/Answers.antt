-- `are_blank` meets its contract: the rows, and what follows them, are the whole.
use Rattle.std.proofs.Common.{true, ◌&&◌, length, ◌/◌, ◌*◌, ◌≤◌, ap, ap₂, ◌∙◌, arith, rules, tests}
use Rattle.std.proofs.lemmas.Iterator.{YieldsList-from_slice}
use Rattle.std.proofs.lemmas.Iterator.Consumers.{fold_from_yields_List}
use Rattle.std.specs.Simd.{first_chunks}
use Rattle.opening.specs.Blank.{blank, row_words}
use Rattle.opening.proofs.laws.BlankLaws.{blank-rows}
use Rattle.integer.proofs.laws.TestsLaws.{fold-all}
use Rattle.opening.proofs.laws.ChunkLaws.{all_chunks}
use Rattle.opening.proofs.words.are_blank.Goals as goal

pub returns : goal.returns
returns c =
    let xs = c.args.part.now in
    let n : length xs / row_words * row_words ≤ length xs = omega arith in
    ap₂ ◌&&◌
    (fold_from_yields_List _ (λ ok row. ok && blank row) true _ c.fold.ensures.ran (YieldsList-from_slice (first_chunks row_words (length xs / row_words) xs) cc) (λ a x b q k. search (rules, tests))
    ∙ fold-all blank true _ ∙ all_chunks blank row_words (length xs / row_words) xs)
    (c.is_blank.ensures ∙ ap blank c.as_chunks.ensures.back)
    ∙ blank-rows xs (length xs / row_words) row_words n
