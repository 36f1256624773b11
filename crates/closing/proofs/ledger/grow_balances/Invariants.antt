use Rattle.std.specs.Prelude.{◌≡◌}
use Rattle.integer.specs.Words.{word}
use Rattle.rulebook.specs.Close.{balances_grown_by}
use Rattle.closing.proofs.ledger.grow_balances.Given as goal

abbrev pub invariant-loop-a : goal.invariant-loop-a
invariant-loop-a l = l.book ≡ balances_grown_by l.initial.book (word l.amounts) l.a
