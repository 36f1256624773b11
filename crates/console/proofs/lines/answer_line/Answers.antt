-- `answer_line` meets its contract: what `numbers_line` puts.
use Rattle.console.specs.Lines.{answer_line}
use Rattle.console.proofs.lines.answer_line.Goals as goal

pub returns : goal.returns
unfolding answer_line
returns o c = c.numbers_line.ensures
