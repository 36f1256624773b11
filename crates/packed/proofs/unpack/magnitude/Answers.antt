-- `magnitude` meets its contract: 14 digits in pairs, and the last (`magnitude-split`).
use Rattle.std.proofs.Common.{sym, arith}
use Rattle.packed.proofs.laws.PairLaws.{magnitude-split}
use Rattle.packed.proofs.unpack.magnitude.Goals as goal

pub returns : goal.returns
returns c =
    let s = c.args.field.now in
    let p = c.pairs_value.ensures in
    let b = c.fits-field 7 in
    (rw (p.0, c.from.ensures) (sym (magnitude-split s 0)), omega (arith, p.1, c.from.ensures))
