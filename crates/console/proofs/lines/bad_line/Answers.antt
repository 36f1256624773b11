-- `bad_line` meets its contract. Rests on `put-one` and the library's text of a number.
use Rattle.console.specs.Lines.{bad_line}
use Rattle.console.proofs.laws.DecimalLaws.{decimal-is}
use Rattle.console.proofs.laws.LinesLaws.{put-one}
use Rattle.console.proofs.lines.bad_line.Goals as goal

pub returns : goal.returns
unfolding bad_line
returns o c =
    rw (c.put-2.ensures.after, c.put_number.ensures.after, c.put.ensures.after, c.clear.ensures, decimal-is _ c.ranges.position.fits)
    (put-one _ _)
