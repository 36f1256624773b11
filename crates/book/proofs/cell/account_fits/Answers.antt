-- `account_fits` meets its contract: each return is the first test that fails, or the last one.
use Rattle.std.proofs.Common.{◌≡◌, sym, ◌∙◌, arith}
use Rattle.integer.proofs.Bits.{got}
use Rattle.integer.specs.Below.{fold}
use Rattle.integer.specs.Words.{word}
use Rattle.rulebook.specs.declared.Section.TheVariants.{Vesting, Meter}
use Rattle.rulebook.specs.WellFormed.{is_zero, padding_zero, row_fits, word_of_row, account_fits}
use Rattle.book.proofs.laws.PairLaws.{vesting-lent, meter-lent}
use Rattle.book.proofs.cell.account_fits.Goals as goal
use Rattle.book.proofs.cell.account_fits.Goals.{After-is_zero, After-pairs_fit, After-pairs_fit-2}

spare : (c : After-is_zero) → c.is_zero.result ≡ is_zero (word c.args.cell.now 23)
spare c = rw (c.is_zero.ensures, got (word c.args.cell.now 23) (omega arith))

vesting : (c : After-pairs_fit) → c.pairs_fit.result ≡ row_fits Vesting (word_of_row (word c.args.cell.now) Vesting)
vesting c = rw (c.pairs_fit.ensures, c.words.ensures) (vesting-lent c.args.cell.now)

meter : (c : After-pairs_fit-2) → c.pairs_fit-2.result ≡ row_fits Meter (word_of_row (word c.args.cell.now) Meter)
meter c = rw (c.pairs_fit-2.ensures, c.words-2.ensures) (meter-lent c.args.cell.now)

pub returns-then-not-is_zero : goal.returns-then-not-is_zero
unfolding account_fits padding_zero fold
returns-then-not-is_zero c =
    let d = goal.at.returns-then-not-is_zero c in
    rw (sym (spare d.After-is_zero) ∙ c.if-not-is_zero.true)

pub returns-then-not-pairs_fit : goal.returns-then-not-pairs_fit
unfolding account_fits padding_zero fold
returns-then-not-pairs_fit c =
    let d = goal.at.returns-then-not-pairs_fit c in
    rw (sym (spare d.After-is_zero) ∙ c.if-not-is_zero.false, sym (vesting d.After-pairs_fit) ∙ c.if-not-pairs_fit.true)

pub returns-then-not-pairs_fit-2 : goal.returns-then-not-pairs_fit-2
unfolding account_fits padding_zero fold
returns-then-not-pairs_fit-2 c =
    let d = goal.at.returns-then-not-pairs_fit-2 c in
    rw (sym (spare d.After-is_zero) ∙ c.if-not-is_zero.false, sym (vesting d.After-pairs_fit) ∙ c.if-not-pairs_fit.false, sym (meter d.After-pairs_fit-2) ∙ c.if-not-pairs_fit-2.true)

pub returns-then-not-residual_fits : goal.returns-then-not-residual_fits
unfolding account_fits padding_zero fold
returns-then-not-residual_fits c =
    let d = goal.at.returns-then-not-residual_fits c in
    rw (sym (spare d.After-is_zero) ∙ c.if-not-is_zero.false, sym (vesting d.After-pairs_fit) ∙ c.if-not-pairs_fit.false, sym (meter d.After-pairs_fit-2) ∙ c.if-not-pairs_fit-2.false, sym c.residual_fits.ensures ∙ c.if-not-residual_fits.true)

pub returns-in-Closed : goal.returns-in-Closed
unfolding account_fits padding_zero fold
returns-in-Closed c =
    let d = goal.at.returns-in-Closed c in
    rw (c.in-Closed.is, sym (spare d.After-is_zero) ∙ c.if-not-is_zero.false, sym (vesting d.After-pairs_fit) ∙ c.if-not-pairs_fit.false, sym (meter d.After-pairs_fit-2) ∙ c.if-not-pairs_fit-2.false, sym c.residual_fits.ensures ∙ c.if-not-residual_fits.false) c.rows_there.ensures

pub returns-in-Open : goal.returns-in-Open
unfolding account_fits padding_zero fold
returns-in-Open c =
    let d = goal.at.returns-in-Open c in
    rw (c.in-Open.is, sym (spare d.After-is_zero) ∙ c.if-not-is_zero.false, sym (vesting d.After-pairs_fit) ∙ c.if-not-pairs_fit.false, sym (meter d.After-pairs_fit-2) ∙ c.if-not-pairs_fit-2.false, sym c.residual_fits.ensures ∙ c.if-not-residual_fits.false)
