-- `rows_there` meets its contract: two flags are read.
use Rattle.std.proofs.Common.{arith}
use Rattle.integer.proofs.Bits.{got}
use Rattle.integer.specs.Words.{word}
use Rattle.rulebook.specs.WellFormed.{rows_there}
use Rattle.book.proofs.cell.rows_there.Goals as goal

pub returns : goal.returns
unfolding rows_there
returns c =
    let w = c.args.cell.now in
    rw (c.is_zero.ensures, c.is_zero-2.ensures, got (word w 0) (omega arith), got (word w 9) (omega arith))
