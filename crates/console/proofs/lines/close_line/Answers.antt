-- `close_line` meets its contract: figures are printed where the close was accepted, else number and position.
use Rattle.console.specs.Lines.{close_line}
use Rattle.console.proofs.laws.LinesLaws.{refused-line}
use Rattle.console.proofs.lines.close_line.Goals as goal

pub returns-in-Ok : goal.returns-in-Ok
unfolding close_line
returns-in-Ok o c = rw c.in-Ok.is c.closed_line.ensures

pub returns-in-Err : goal.returns-in-Err
returns-in-Err o c = rw (c.in-Err.is, refused-line, ← c.in-Err.is, ← c.into.ensures) c.answer_line.ensures
