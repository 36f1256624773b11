-- `open_book` meets its contract: each answer, with the words that it leaves, is the promise's.
use Rattle.std.proofs.Common.{arith}
use Rattle.std.proofs.lemmas.Result.{err_from_is_err_and}
use Rattle.opening.proofs.laws.OpenLaws.{tested_ok, tested_err, terms-refused, size-refused, book-opened}
use Rattle.opening.proofs.open.open_book.Goals as goal

pub returns-in_err-accepted : goal.returns-in_err-accepted
returns-in_err-accepted c =
    let p = err_from_is_err_and c.from_residual.result c.from_residual.ensures.1 in
    let t = tested_err c.args.terms c.new.ensures c.in_err-accepted.ensures.value in
    rw (p.1, p.2, t.1) (terms-refused _ _ t.0)

pub returns-then-book-book_size : goal.returns-then-book-book_size
returns-then-book-book_size c =
    let t = tested_ok c.args.terms c.new.ensures c.in_ok-accepted.ensures.value in
    size-refused _ _ t.0 (rw (← t.1) (omega arith))

pub returns : goal.returns
returns c =
    let t = tested_ok c.args.terms c.new.ensures c.in_ok-accepted.ensures.value in
    let l = c.if-book-book_size.false in
    rw (c.put_new_book.ensures, t.1) (book-opened _ _ t.0 (rw (← t.1) (omega arith)))
