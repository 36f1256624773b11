-- `pairs_fit` meets its contract: each return is the first test that fails, or the last one.
use Rattle.std.proofs.Common.{◌≡◌, sym, ◌∙◌, pos, arith, true, false}
use Rattle.std.specs.Int.Signed.{lt_z}
use Rattle.integer.proofs.Bits.{got}
use Rattle.integer.specs.Words.{word}
use Rattle.rulebook.specs.Units.{between}
use Rattle.rulebook.specs.WellFormed.{is_zero}
use Rattle.rulebook.specs.RowPairs.{row_pairs, pairs_fit}
use Rattle.rulebook.proofs.laws.RowPairLaws.{absent-is, no_rest}
use Rattle.book.proofs.cell.pairs_fit.Goals as goal

pub returns-then-is_zero : goal.returns-then-is_zero
returns-then-is_zero c =
    let z = word c.args.row.now 0 in
    let e : is_zero z ≡ true = rw (got z (omega arith)) at (sym c.is_zero.ensures ∙ c.if-is_zero.true) in
    c.rest_zero.ensures ∙ sym (absent-is _ _ _ e)

pub returns-then-not-is_between : goal.returns-then-not-is_between
unfolding pairs_fit
returns-then-not-is_between c =
    let z = word c.args.row.now 0 in
    let e : between (pos 0) (pos row_pairs) z ≡ false = rw (got z (omega arith)) at (sym c.is_between.ensures ∙ c.if-not-is_between.true) in
    rw e

pub returns-then-not-pairs_in_range : goal.returns-then-not-pairs_in_range
unfolding pairs_fit
returns-then-not-pairs_in_range c =
    let z = word c.args.row.now 0 in
    let e : between (pos 0) (pos row_pairs) z ≡ true = rw (got z (omega arith)) at (sym c.is_between.ensures ∙ c.if-not-is_between.false) in
    rw (e, sym c.pairs_in_range.ensures ∙ c.if-not-pairs_in_range.true)

pub returns-then-flag-gt3 : goal.returns-then-flag-gt3
unfolding pairs_fit
returns-then-flag-gt3 c =
    let z = word c.args.row.now 0 in
    let e : between (pos 0) (pos row_pairs) z ≡ true = rw (got z (omega arith)) at (sym c.is_between.ensures ∙ c.if-not-is_between.false) in
    let f : lt_z (pos 3) z ≡ true = rw (got z (omega arith)) at c.if-flag-gt3.true in
    rw (e, sym c.pairs_in_range.ensures ∙ c.if-not-pairs_in_range.false, no_rest _ f)

pub returns-else-flag-gt3 : goal.returns-else-flag-gt3
unfolding pairs_fit
returns-else-flag-gt3 c =
    let z = word c.args.row.now 0 in
    let e : between (pos 0) (pos row_pairs) z ≡ true = rw (got z (omega arith)) at (sym c.is_between.ensures ∙ c.if-not-is_between.false) in
    rw (e, sym c.pairs_in_range.ensures ∙ c.if-not-pairs_in_range.false) c.rest_zero-else-flag-gt3.ensures
