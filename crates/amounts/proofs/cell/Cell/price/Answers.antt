-- `price` meets its contract: V is the average of the cell's sums.
use Rattle.integer.proofs.Bits.{got}
use Rattle.rulebook.specs.DayAmount.{reference_price_of}
use Rattle.rules.specs.PriceSums.{sums-count, sums-price}
use Rattle.amounts.specs.Cell.{cell_data}
use Rattle.amounts.proofs.cell.Cell.price.Goals as goal

pub price-requires : goal.price-requires
price-requires c =
    let d = cell_data c.args.self.words.now in
    let n = sums-count d.facilities d.mep d.ieq in
    let r = c.args.self.ranged in
    (rw (c.sums.ensures, n) r.some, rw (c.sums.ensures, n) r.sized.few)

pub returns : goal.returns
unfolding reference_price_of
returns c =
    let d = cell_data c.args.self.words.now in
    rw (got c.price.result c.price.type_inv, c.price.ensures, c.sums.ensures, sums-price d.facilities d.mep d.ieq)
