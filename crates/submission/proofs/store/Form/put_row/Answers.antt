-- `put_row` meets its contract: each turn writes one interval's part of the grid.
use Rattle.std.proofs.Common.{refl, arith}
use Rattle.integer.specs.Words.{grid_row}
use Rattle.integer.proofs.laws.WordsLaws.{grid-zero, grid-suc}
use Rattle.submission.proofs.laws.StoredLaws.{interval-part}
use Rattle.submission.proofs.store.Form.put_row.Goals as goal
use Rattle.submission.proofs.store.Form.put_row.Goals.{In-loop-i}

pub loop-i-init : goal.loop-i-init
loop-i-init c = (refl, grid-zero _ _ _ _ _)

pub loop-i-preserved : goal.loop-i-preserved
unfolding grid_row
loop-i-preserved c =
    let w = rw (interval-part c.args.self.now c.args.values.now c.loop-i.i) at c.put.ensures in
    (omega arith, rw grid-suc (cc))
