-- `judge` meets its contract: each return is the first test that fails, or the last one.
use Rattle.std.proofs.Common.{◌≡◌, ◌≤◌, length, arith}
use Rattle.rulebook.specs.Layout.{size}
use Rattle.rulebook.specs.BookData.{terms_of}
use Rattle.rulebook.specs.WellFormed.{well_formed}
use Rattle.book.specs.Judged.{judged_book}
use Rattle.book.proofs.laws.JudgeLaws.{none-left, size-left, contents_left}
use Rattle.book.proofs.judge.judge.Goals as goal
use Rattle.book.proofs.judge.judge.Goals.{After-contents_fit}

pub returns-in_err-header : goal.returns-in_err-header
returns-in_err-header c = rw c.from_residual.ensures (none-left c.args.book.now c.in_err-header.ensures.fits)

pub returns-then-book-book_size : goal.returns-then-book-book_size
returns-then-book-book_size c =
    let t = c.in_ok-header.ensures.told in
    size-left c.args.book.now (rw (← t.0, ← c.book_size.ensures) (omega arith))

-- what `contents_fit` answered is whether the book is well formed
answered : (c : After-contents_fit) → c.contents_fit.result ≡ well_formed c.args.book.now
answered c =
    let w = c.args.book.now in
    let t = c.in_ok-header.ensures.told in
    let l : size (terms_of w) ≤ length w = rw (← t.0, ← c.book_size.ensures) (omega arith) in
    rw (c.contents_fit.ensures, t.0, t.1) (contents_left w c.in_ok-header.ensures.fits l)

pub returns-then-not-contents_fit : goal.returns-then-not-contents_fit
unfolding judged_book
returns-then-not-contents_fit c = rw (← answered (goal.at.returns-then-not-contents_fit c).After-contents_fit, c.if-not-contents_fit.true)

pub returns : goal.returns
unfolding judged_book
returns c =
    let t = c.in_ok-header.ensures.told in
    rw (← answered (goal.at.returns c).After-contents_fit, c.if-not-contents_fit.false, t.0, t.1)
