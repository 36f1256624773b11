-- `settled_amount` meets its contract: vesting and the share's amount are small.
use Rattle.std.specs.Int.{w64}
use Rattle.std.proofs.Common.{◌≡◌, ℤ, ◌≤◌, nat_abs, ap, ◌∙◌, arith, to_z, of_z}
use Rattle.integer.proofs.laws.IntegerLaws.{abs-add}
use Rattle.integer.proofs.Bits.{got}
use Rattle.rulebook.specs.DayAmount.{reference_price_of, vesting_amount, share_amount}
use Rattle.rulebook.proofs.laws.SizeLaws.{price-sized, vesting-size}
use Rattle.amounts.specs.Cell.{cell_data}
use Rattle.amounts.specs.Day.{cell_residual}
use Rattle.amounts.proofs.laws.DayLaws.{cell-residual_le}
use Rattle.amounts.proofs.day.settled_amount.Goals as goal
use Rattle.amounts.proofs.day.settled_amount.Goals.{After-price, After-residual_amount}

-- V of then, read back
price : (c : After-price) → to_z w64 (of_z w64 c.price.result) ≡ reference_price_of (cell_data c.args.then.words.now)
price c = got c.price.result c.price.type_inv ∙ c.price.ensures

pub residual_amount-requires : goal.residual_amount-requires
residual_amount-requires c =
    let w = c.args.then in
    (rw (price (goal.at.residual_amount-requires c).After-price) (price-sized (cell_data w.words.now) w.ranged.sized), c.requires)

-- vesting and the residual, read back
record Amounts (c : After-residual_amount) : Type 0 where
  vesting : to_z w64 (of_z w64 c.vesting_amount-vesting.result) ≡ vesting_amount (cell_data c.args.cell.words.now)
  vesting-small : nat_abs (to_z w64 (of_z w64 c.vesting_amount-vesting.result)) ≤ 80000000000000
  residual : to_z w64 (of_z w64 c.residual_amount.result) ≡ cell_residual c.args.then.words.now c.args.share
  residual-small : nat_abs (to_z w64 (of_z w64 c.residual_amount.result)) ≤ 20000000000000

amounts : (c : After-residual_amount) → to_z w64 (of_z w64 c.price.result) ≡ reference_price_of (cell_data c.args.then.words.now) → Amounts c
amounts c p =
    let v = c.vesting_amount-vesting in
    let r = c.residual_amount in
    let w = c.args.then in
    let e = got v.result v.type_inv ∙ v.ensures in
    let f : to_z w64 (of_z w64 r.result) ≡ cell_residual w.words.now c.args.share =
    got r.result r.type_inv ∙ r.ensures ∙ ap (λ (v : ℤ). share_amount (cell_data w.words.now) v c.args.share) p in
    record {
      vesting = e;
      vesting-small = omega (arith, ap nat_abs e, vesting-size (cell_data c.args.cell.words.now) c.args.cell.ranged.sized);
      residual = f;
      residual-small = omega (arith, ap nat_abs f, cell-residual_le w.words.now w.ranged c.args.share c.requires);
    }

pub add-requires : goal.add-requires
add-requires c =
    let g = goal.at.add-requires c in
    let a = amounts g.After-residual_amount (price g.After-price) in
    omega (arith, a.vesting-small, a.residual-small)

pub returns-clause-small : goal.returns-clause-small
returns-clause-small c =
    let g = goal.at.returns-clause-small c in
    let a = amounts g.After-residual_amount (price g.After-price) in
    let e = got c.add.result c.add.type_inv ∙ c.add.ensures in
    omega (arith, ap nat_abs e, abs-add (to_z w64 (of_z w64 c.vesting_amount-vesting.result)) (to_z w64 (of_z w64 c.residual_amount.result)), a.vesting-small, a.residual-small)

pub returns-clause-amount : goal.returns-clause-amount
returns-clause-amount c =
    let g = goal.at.returns-clause-amount c in
    let a = amounts g.After-residual_amount (price g.After-price) in
    rw (got c.add.result c.add.type_inv, c.add.ensures, a.vesting, a.residual)
