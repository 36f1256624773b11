-- `rest_zero` meets its contract: each turn is one pair more.
use Rattle.std.proofs.Common.{◌≡◌, ◌*◌, ◌&&◌, ◌<◌, List, ℤ, [], length, get_or, refl, ap, ap₂, ◌∙◌, arith}
use Rattle.std.specs.Simd.{first_chunks}
use Rattle.integer.proofs.Bits.{got, holds-nat}
use Rattle.integer.specs.Below.{fold}
use Rattle.integer.specs.Words.{word, part}
use Rattle.integer.proofs.laws.WordsLaws.{length_part}
use Rattle.rulebook.specs.WellFormed.{is_zero}
use Rattle.rulebook.specs.RowPairs.{row_pairs, rest_zero}
use Rattle.opening.specs.Blank.{blank}
use Rattle.opening.proofs.laws.LoopLaws.{all_step}
use Rattle.integer.proofs.laws.ChunkLaws.{chunk-at}
use Rattle.opening.proofs.laws.ChunkLaws.{length-chunks}
use Rattle.book.proofs.laws.PairLaws.{pairs-lent, pair-first, pair-second, blank-pair}
use Rattle.book.proofs.cell.rest_zero.Goals as goal

pub loop-p-init : goal.loop-p-init
unfolding fold
loop-p-init c = refl

-- there are four pairs
four : {ps : List (List ℤ)} (row : List ℤ) → ps ≡ first_chunks 2 row_pairs (part row 1 8) → length ps ≡ row_pairs
four row e = ap length e ∙ length-chunks 2 row_pairs (part row 1 8)

pub loop-p-preserved : goal.loop-p-preserved
loop-p-preserved c =
    let row = c.args.row.now in
    let p = c.loop-p.p in
    let e = c.as_chunks.ensures.front ∙ pairs-lent row c.told-row in
    let n = four row e in
    let h : p < row_pairs = omega arith in
    let pair : get_or c.as_chunks.result.0.now p [] ≡ part (part row 1 8) (p * 2) 2 = ap (λ (x : List (List ℤ)). get_or x p []) e ∙ chunk-at 2 row_pairs p (part row 1 8) [] h in
    let l = length_part row 1 8 (omega arith) in
    let zeros = c.is_blank.ensures ∙ ap blank pair ∙ blank-pair (part (part row 1 8) (p * 2) 2) (length_part (part row 1 8) (p * 2) 2 (omega arith)) ∙ ap₂ ◌&&◌ (ap is_zero (pair-first row p h)) (ap is_zero (pair-second row p h)) in
    all_step p _ c.loop-p.invariant (rw ((holds-nat p (omega arith)).is, got (word row 0) (omega arith), zeros))

pub returns : goal.returns
unfolding rest_zero
returns c =
    let row = c.args.row.now in
    let n = four row (c.as_chunks.ensures.front ∙ pairs-lent row c.told-row) in
    let e : c.loop-p.p ≡ row_pairs = omega arith in
    rw e at c.loop-p.invariant
