-- `settle` meets its contract: the book is written by the statement, and both are the rule book's.
use Rattle.std.proofs.Common.{sym, subst}
use Rattle.integer.proofs.Bits.{got}
use Rattle.closing.specs.Written.{StatementOf}
use Rattle.closing.proofs.laws.SettlingLaws.{statement-of}
use Rattle.closing.proofs.laws.CloseLaws.{accepted}
use Rattle.closing.proofs.close.settle.Goals as goal

pub write_book-requires-clause-statement : goal.write_book-requires-clause-statement
write_book-requires-clause-statement c =
    let w = c.args.book.now in
    let f = c.args.formed.now in
    subst (StatementOf w f.terms f.next) (sym c.write_statement-difference.ensures.statement) (statement-of w f.terms f.next c.requires.0 c.args.statement.now c.requires.1)

pub returns : goal.returns
returns c =
    let f = c.args.formed.now in
    let s = c.requires.0 in
    let d = c.write_statement-difference in
    rw (c.residual_count.ensures, c.write_book.ensures, d.ensures.statement, got d.result d.type_inv, d.ensures.difference)
    (accepted c.args.book.now c.args.statement.now f.terms f.next s.book s.left c.requires.1 s.none)
