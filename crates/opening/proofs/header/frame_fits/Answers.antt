-- `frame_fits` meets its contract: three words are read, and the rest are blank.
use Rattle.std.proofs.Common.{arith}
use Rattle.integer.proofs.Bits.{got}
use Rattle.integer.specs.Words.{word}
use Rattle.opening.proofs.header.frame_fits.Goals as goal

pub returns : goal.returns
returns c =
    let w = c.args.words.now in
    rw (c.is_mark.ensures, c.is_between.ensures, c.is_blank.ensures, got (word w 0) (omega arith), got (word w 4) (omega arith), got (word w 5) (omega arith))
