-- `submit_line` meets its contract: what `answer_line` puts.
use Rattle.console.specs.Lines.{submit_line}
use Rattle.console.proofs.lines.submit_line.Goals as goal

pub returns : goal.returns
unfolding submit_line
returns o c = rw (c.answer_line.ensures, c.into.ensures)
