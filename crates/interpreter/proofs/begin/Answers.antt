-- `begin` meets its contract: cut short, opened or refused.
use Rattle.std.proofs.Common.{refl}
use Rattle.interpreter.proofs.laws.InterpreterLaws.{begins-cut, begins-opened, begins-refused, refused-answer}
use Rattle.interpreter.proofs.begin.Goals as goal

pub returns-then-s-lt-OPENING : goal.returns-then-s-lt-OPENING
returns-then-s-lt-OPENING o c = begins-cut c.args.book.now c.args.s.now c.if-s-lt-OPENING.true c.bad_line.ensures

pub returns-in-Ok : goal.returns-in-Ok
returns-in-Ok o c =
    let g = c.args in
    rw c.opening_terms-terms.ensures (begins-opened g.book.now g.s.now c.if-s-lt-OPENING.false (rw c.opening_terms-terms.ensures at c.open_book-answer.ensures) c.open_line.ensures (rw c.in-Ok.is refl))

pub returns-in-Err : goal.returns-in-Err
returns-in-Err o c =
    let g = c.args in
    begins-refused g.book.now g.s.now c.if-s-lt-OPENING.false (rw c.opening_terms-terms.ensures at c.open_book-answer.ensures) c.open_line.ensures (λ x. refused-answer _ (rw c.in-Err.is at x))
