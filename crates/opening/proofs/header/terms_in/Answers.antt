-- `terms_in` meets its contract: the words are those of the rule book's terms.
use Rattle.std.proofs.Common.{arith, pos}
use Rattle.std.proofs.Math.Bool.{and-true, and-false}
use Rattle.std.specs.Int.Signed.{le_z}
use Rattle.integer.proofs.Bits.{got}
use Rattle.integer.specs.Integer.{positive}
use Rattle.integer.specs.Words.{word}
use Rattle.rulebook.specs.WellFormed.{terms_words_fit}
use Rattle.opening.proofs.laws.WordLaws.{given-none, given-some}
use Rattle.opening.proofs.header.terms_in.Goals as goal

pub returns-in_err-change : goal.returns-in_err-change
unfolding terms_words_fit
returns-in_err-change c =
    let x = word c.args.words.now 7 in
    let e = given-none (positive x) (le_z (pos 0) x) (rw (got x (omega arith)) at c.in_err-change.ensures) in
    rw (c.from_residual.ensures, e, and-false _)

pub returns : goal.returns
unfolding terms_words_fit
returns c =
    let w = c.args.words.now in
    let e = given-some (positive (word w 7)) (le_z (pos 0) (word w 7)) (rw (got (word w 7) (omega arith)) at c.in_ok-change.ensures) in
    rw (c.new.ensures, c.natural.ensures, c.natural-2.ensures, c.natural-3.ensures, c.natural-4.ensures, got (word w 1) (omega arith), got (word w 2) (omega arith), got (word w 3) (omega arith), got (word w 4) (omega arith), e.1, e.0, and-true _)
