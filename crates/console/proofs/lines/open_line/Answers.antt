-- `open_line` meets its contract: what `answer_line` puts.
use Rattle.console.specs.Lines.{open_line}
use Rattle.console.proofs.lines.open_line.Goals as goal

pub returns : goal.returns
unfolding open_line
returns o c = rw (c.answer_line.ensures, c.into.ensures)
