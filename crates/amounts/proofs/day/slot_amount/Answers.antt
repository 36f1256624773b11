-- `slot_amount` meets its contract: where a residual is due, it is that of then's share.
use Rattle.std.specs.Int.{w64}
use Rattle.std.proofs.Common.{◌≡◌, List, ℤ, ◌+◌, nat_abs, sym, ap, ◌∙◌, arith, to_z, of_z}
use Rattle.integer.proofs.Bits.{got}
use Rattle.rulebook.specs.DayAmount.{vesting_amount}
use Rattle.rulebook.proofs.laws.SizeLaws.{vesting-size}
use Rattle.amounts.specs.Cell.{cell_data}
use Rattle.amounts.proofs.laws.DayLaws.{sum_settled, sum_unsettled, amount-settled, amount-unsettled}
use Rattle.amounts.proofs.day.slot_amount.Goals as goal
use Rattle.amounts.proofs.day.slot_amount.Goals.{After-vesting_amount}

pub share-share-requires : goal.share-share-requires
share-share-requires c =
    (rw c.in-Some.is at c.requires.1, c.requires.2, c.requires.3 ∙ sum_settled c.args.then.now c.in-Some.settled c.args.a c.args.h c.in-Some.is)

pub returns-in-Some-clause-amount : goal.returns-in-Some-clause-amount
returns-in-Some-clause-amount c =
    let a = c.args in
    let s = c.settled_amount in
    rw (got s.result s.type_inv, s.ensures.amount, c.cell-cell.ensures, c.cell.ensures, c.share-share.ensures.share.0)
    (sym (amount-settled a.today.accounts a.today.words.now a.a a.h a.then.now c.in-Some.settled c.in-Some.is))

pub returns-in-Some-clause-sum : goal.returns-in-Some-clause-sum
returns-in-Some-clause-sum c =
    c.share-share.ensures.sum ∙ sym (sum_settled c.args.then.now c.in-Some.settled (c.args.a + 1) c.args.h c.in-Some.is)

-- vesting, read back
vesting : (c : After-vesting_amount) → to_z w64 (of_z w64 c.vesting_amount.result) ≡ vesting_amount (cell_data c.cell-cell.result.words.now)
vesting c = let r = c.vesting_amount in got r.result r.type_inv ∙ r.ensures

pub returns-in-None-clause-small : goal.returns-in-None-clause-small
returns-in-None-clause-small c =
    let w = c.cell-cell.result in
    omega (arith, ap nat_abs (vesting (goal.at.returns-in-None-clause-small c).After-vesting_amount), vesting-size (cell_data w.words.now) w.ranged.sized)

pub returns-in-None-clause-amount : goal.returns-in-None-clause-amount
returns-in-None-clause-amount c =
    let a = c.args in
    vesting (goal.at.returns-in-None-clause-amount c).After-vesting_amount ∙ ap (λ (x : List ℤ). vesting_amount (cell_data x)) c.cell-cell.ensures
    ∙ sym (amount-unsettled a.today.accounts a.today.words.now a.a a.h a.then.now c.in-None.is)

pub returns-in-None-clause-sum : goal.returns-in-None-clause-sum
returns-in-None-clause-sum c =
    let t = c.args.then.now in
    c.requires.3 ∙ sum_unsettled t c.args.a c.args.h c.in-None.is ∙ sym (sum_unsettled t (c.args.a + 1) c.args.h c.in-None.is)
