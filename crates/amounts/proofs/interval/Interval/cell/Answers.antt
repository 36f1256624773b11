-- `cell` meets its contract: what is lent is the account's cell.
use Rattle.integer.proofs.laws.WordsLaws.{lent}
use Rattle.rulebook.specs.Layout.{account_words}
use Rattle.amounts.proofs.interval.Interval.cell.Goals as goal

pub invariant_of-result : goal.invariant_of-result
invariant_of-result c =
    let s = c.args.self in
    record { ranged = rw (lent s.words.now c.cell_place-i.result account_words, c.cell_place-i.ensures) (s.ranged.cells c.args.a c.requires) }
