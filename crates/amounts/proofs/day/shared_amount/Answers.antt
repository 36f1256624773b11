-- `shared_amount` meets its contract: where a residual is due, it is that of the share.
use Rattle.std.specs.Int.{w64}
use Rattle.std.proofs.Common.{◌≡◌, List, ℤ, nat_abs, sym, ap, ◌∙◌, arith, to_z, of_z}
use Rattle.integer.proofs.Bits.{got}
use Rattle.rulebook.specs.DayAmount.{vesting_amount}
use Rattle.rulebook.proofs.laws.SizeLaws.{vesting-size}
use Rattle.amounts.specs.Cell.{cell_data}
use Rattle.amounts.proofs.laws.SharesLaws.{amount-due, amount-none}
use Rattle.amounts.proofs.day.shared_amount.Goals as goal
use Rattle.amounts.proofs.day.shared_amount.Goals.{After-vesting_amount}

pub returns-in-Some-clause-amount : goal.returns-in-Some-clause-amount
returns-in-Some-clause-amount c =
    let a = c.args in
    let s = c.settled_amount in
    rw (got s.result s.type_inv, s.ensures.amount, c.cell-cell.ensures, c.cell.ensures)
    (sym (amount-due a.today.accounts a.today.words.now a.share a.a a.h a.then.now c.in-Some.slot c.in-Some.is))

-- vesting, read back
vesting : (c : After-vesting_amount) → to_z w64 (of_z w64 c.vesting_amount.result) ≡ vesting_amount (cell_data c.cell-cell.result.words.now)
vesting c = let r = c.vesting_amount in got r.result r.type_inv ∙ r.ensures

pub returns-in-None-clause-small : goal.returns-in-None-clause-small
returns-in-None-clause-small c =
    let w = c.cell-cell.result in
    omega (arith, ap nat_abs (vesting (goal.at.returns-in-None-clause-small c).After-vesting_amount), vesting-size (cell_data w.words.now) w.ranged.sized)

pub returns-in-None-clause-amount : goal.returns-in-None-clause-amount
returns-in-None-clause-amount c =
    let a = c.args in
    vesting (goal.at.returns-in-None-clause-amount c).After-vesting_amount ∙ ap (λ (x : List ℤ). vesting_amount (cell_data x)) c.cell-cell.ensures
    ∙ sym (amount-none a.today.accounts a.today.words.now a.share a.a a.h a.then.now c.in-None.is)
