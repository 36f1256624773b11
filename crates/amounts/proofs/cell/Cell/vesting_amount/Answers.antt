-- `vesting_amount` meets its contract: the base contract's amount and the tenders' are within 8 × 10^13 together.
use mathlib.Core.Path.{◌≡◌, ap, ◌∙◌}
use Prim.Native.Nat.{◌≤◌}
use native.Mathlib.Omega.{arith}
use lib.IntN.{pos, nat_abs, ◌-ℤ◌, ◌*ℤ◌}
use mir.Syntax.{w64}
use mir.Val.{to_z, of_z}
use Rattle.integer.proofs.Bits.{got}
use Rattle.integer.specs.Words.{word}
use Rattle.rulebook.specs.Units.{as_quantity}
use Rattle.rulebook.specs.DayAmount.{reference_price_of, tender_amount, vesting_amount}
use Rattle.rulebook.proofs.laws.SizeLaws.{price-sized, base-size, tender-amount_size}
use Rattle.amounts.specs.Cell.{cell_data}
use Rattle.amounts.proofs.laws.CellLaws.{priced-cong, sum_cong}
use Rattle.amounts.proofs.cell.Cell.vesting_amount.Goals as goal
use Rattle.amounts.proofs.cell.Cell.vesting_amount.Goals.{After-price-v, After-tender_amount}

-- V, read back
price : (c : After-price-v) → to_z w64 (of_z w64 c.price-v.result) ≡ reference_price_of (cell_data c.args.self.words.now)
price c = got c.price-v.result c.price-v.type_inv ∙ c.price-v.ensures

price-le : (c : After-price-v) → nat_abs (to_z w64 (of_z w64 c.price-v.result)) ≤ 1000000
price-le c = rw (price c) (price-sized (cell_data c.args.self.words.now) c.args.self.ranged.sized)

pub priced-base-requires : goal.priced-base-requires
priced-base-requires c =
    let e = c.args.self.ranged.whole in
    (omega arith, c.args.self.ranged.sized.bvp, price-le (goal.at.priced-base-requires c).After-price-v, c.quantity.ensures.1)

pub tender_amount-requires : goal.tender_amount-requires
tender_amount-requires c = price-le (goal.at.tender_amount-requires c).After-price-v

-- both amounts, read back
module _ (c : After-tender_amount) (p : to_z w64 (of_z w64 c.price-v.result) ≡ reference_price_of (cell_data c.args.self.words.now)) where
  base : to_z w64 (of_z w64 c.priced-base.result) ≡ (word c.args.self.words.now 2 -ℤ reference_price_of (cell_data c.args.self.words.now)) *ℤ pos (as_quantity (word c.args.self.words.now 1))
  base =
      let r = c.priced-base in
      let q = c.quantity.ensures.0 in
      got r.result r.type_inv ∙ r.ensures ∙ priced-cong (word c.args.self.words.now 2) p q

  tender : to_z w64 (of_z w64 c.tender_amount.result) ≡ tender_amount (cell_data c.args.self.words.now) (reference_price_of (cell_data c.args.self.words.now))
  tender = let r = c.tender_amount in got r.result r.type_inv ∙ r.ensures ∙ ap (tender_amount (cell_data c.args.self.words.now)) p

pub add-requires : goal.add-requires
add-requires c =
    let g = goal.at.add-requires c in
    let p = price g.After-price-v in
    let d = cell_data c.args.self.words.now in
    let v = reference_price_of d in
    let x = c.args.self.ranged.sized in
    let h = price-sized d x in
    rw (base g.After-tender_amount p, tender g.After-tender_amount p) (omega (arith, base-size d x v h, tender-amount_size d x v h))

pub returns : goal.returns
unfolding vesting_amount
returns c =
    let g = goal.at.returns c in
    let p = price g.After-price-v in
    got c.add.result c.add.type_inv ∙ c.add.ensures ∙ sum_cong (base g.After-tender_amount p) (tender g.After-tender_amount p)
