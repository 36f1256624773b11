-- `residual_fits` meets its contract: by `residual-is` the row fits exactly if its flag and its two pairs do.
use Rattle.std.proofs.Common.{◌≡◌, sym, ◌∙◌, pos, arith, true, false}
use Rattle.std.specs.Int.Signed.{lt_z}
use Rattle.integer.proofs.Bits.{got}
use Rattle.integer.specs.Words.{word, part}
use Rattle.integer.proofs.laws.WordsLaws.{length_part}
use Rattle.rulebook.specs.Units.{between}
use Rattle.opening.proofs.laws.LoopLaws.{word-part}
use Rattle.book.proofs.laws.RowLaws.{residual-is}
use Rattle.book.proofs.laws.PairLaws.{blank-pair}
use Rattle.book.proofs.cell.residual_fits.Goals as goal

pub returns-then-not-is_between : goal.returns-then-not-is_between
returns-then-not-is_between c =
    let z = word c.args.cell.now 18 in
    let e : between (pos 0) (pos 1) z ≡ false = rw (got z (omega arith)) at (sym c.is_between.ensures ∙ c.if-not-is_between.true) in
    rw (residual-is _, e)

pub returns-then-flag-gt0 : goal.returns-then-flag-gt0
returns-then-flag-gt0 c =
    let w = c.args.cell.now in
    let z = word w 18 in
    let e : between (pos 0) (pos 1) z ≡ true = rw (got z (omega arith)) at (sym c.is_between.ensures ∙ c.if-not-is_between.false) in
    let f : lt_z (pos 0) z ≡ true = rw (got z (omega arith)) at c.if-flag-gt0.true in
    rw (residual-is _, e, f, c.pair_in_range.ensures, c.pair_in_range-then-flag-gt0.ensures, c.words-quantities.ensures, c.words-prices.ensures, word-part w 19 2 0 (omega arith), word-part w 19 2 1 (omega arith), word-part w 21 2 0 (omega arith), word-part w 21 2 1 (omega arith))

pub returns-else-flag-gt0 : goal.returns-else-flag-gt0
returns-else-flag-gt0 c =
    let w = c.args.cell.now in
    let z = word w 18 in
    let e : between (pos 0) (pos 1) z ≡ true = rw (got z (omega arith)) at (sym c.is_between.ensures ∙ c.if-not-is_between.false) in
    let f : lt_z (pos 0) z ≡ false = rw (got z (omega arith)) at c.if-flag-gt0.false in
    let l = c.told-cell in
    rw (residual-is _, e, f, c.is_blank.ensures, c.is_blank-else-flag-gt0.ensures, c.words-quantities.ensures, c.words-prices.ensures, blank-pair (part w 19 2) (length_part w 19 2 (omega arith)), blank-pair (part w 21 2) (length_part w 21 2 (omega arith)), word-part w 19 2 0 (omega arith), word-part w 19 2 1 (omega arith), word-part w 21 2 0 (omega arith), word-part w 21 2 1 (omega arith))
