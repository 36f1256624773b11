-- `statement_fits` meets its contract: every amount is tested.
use Rattle.std.proofs.Common.{◌≡◌, pos, sym, ◌∙◌, true, ◌&&◌, length, rules, tests}
use Rattle.std.proofs.lemmas.Iterator.{YieldsList-from_slice}
use Rattle.std.proofs.lemmas.Iterator.Consumers.{fold_from_yields_List}
use Rattle.packed.specs.Packed.{count_fits, amount_fits, statement_fits}
use Rattle.integer.proofs.laws.TestsLaws.{tests-folded}
use Rattle.packed.proofs.pack.statement_fits.Goals as goal

pub returns-then-not-count_fits : goal.returns-then-not-count_fits
unfolding statement_fits
returns-then-not-count_fits c = rw (sym c.count_fits.ensures ∙ c.if-not-count_fits.true)

pub returns : goal.returns
unfolding statement_fits
returns c =
    let xs = c.args.amounts.now in
    let t : count_fits (length xs) ≡ true = sym c.count_fits.ensures ∙ c.if-not-count_fits.false in
    rw t
    (fold_from_yields_List _ (λ fit z. fit && amount_fits z) true _ c.fold.ensures.ran (YieldsList-from_slice xs cc) (λ a x b q k. search (rules, tests))
    ∙ tests-folded amount_fits (pos 0) xs)
