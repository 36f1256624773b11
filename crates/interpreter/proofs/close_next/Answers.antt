-- `close_next` meets its contract: the statement's first N + 1 words are the line's amounts.
use Rattle.interpreter.proofs.close_next.Goals as goal

pub returns : goal.returns
returns o c =
    let p = c.close-answer.ensures in
    (p.book_after, rw (← p.answered, ← p.statement_after) c.close_line.ensures)
