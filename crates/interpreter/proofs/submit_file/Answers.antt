-- `submit_file` meets its contract: what the submission left, and the line of its answer.
use Rattle.interpreter.proofs.submit_file.Goals as goal

pub returns : goal.returns
returns o c =
    let p = c.submit-answer.ensures in
    (p.book_after, rw (← p.answered) c.submit_line.ensures)
