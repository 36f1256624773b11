-- `numbers_line` meets its contract: the word, then two numbers. Rests on `put-two` and the library's text of a number.
use Rattle.console.proofs.laws.DecimalLaws.{decimal-is}
use Rattle.console.proofs.laws.LinesLaws.{put-two}
use Rattle.console.proofs.lines.numbers_line.Goals as goal

pub returns : goal.returns
returns o c =
    rw (c.put-2.ensures.after, c.put_number-2.ensures.after, c.put_number.ensures.after, c.put.ensures.after, c.clear.ensures, decimal-is _ c.ranges.number.fits, decimal-is _ c.ranges.position.fits)
    (put-two c.args.word.now _ _)
