-- `read_item` meets its contract: each read stays within the item.
use native.Mathlib.Omega.{arith}
use lib.Seq.{length-take-le}
use Rattle.console.proofs.laws.ReadingLaws.{bytes-own}
use Rattle.settle.proofs.read_item.Goals as goal

pub returns : goal.returns
returns c =
    let e = c.read_on.ensures in
    (e.0, bytes-own _ (omega (arith, e, length-take-le c.read_on.result c.read_on.new.bytes (omega (arith, e, c.requires)))))
