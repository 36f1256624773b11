-- `tranches` meets its contract: in each case the answer is `tranche_call`; what is accepted is in range.
use Rattle.std.specs.Int.{w64}
use Rattle.std.proofs.Common.{◌≡◌, rules, to_z, of_z}
use Rattle.std.proofs.lemmas.Result.{err_from_is_err_and}
use Rattle.rulebook.specs.Calls.{tranche_input, tranche_call}
use Rattle.rules.proofs.laws.ToldLaws.{told_ok, told_err}
use Rattle.rules.proofs.tranche.tranches.Goals as goal

pub returns-in_err-quantity : goal.returns-in_err-quantity
unfolding tranche_call tranche_input
returns-in_err-quantity c =
    let x : to_z w64 (of_z w64 c.args.rvq) ≡ c.args.rvq = search rules in
    let p = err_from_is_err_and c.from_residual.result c.from_residual.ensures.1 in
    let t = told_err _ _ _ c.in_err-quantity.ensures in
    rw (p.1, p.2, t.1, ← x, t.0)

pub returns-in_err-quantity-2 : goal.returns-in_err-quantity-2
unfolding tranche_call tranche_input
returns-in_err-quantity-2 c =
    let x : to_z w64 (of_z w64 c.args.rvq) ≡ c.args.rvq = search rules in
    let y : to_z w64 (of_z w64 c.args.bvq) ≡ c.args.bvq = search rules in
    let r = c.from_residual-in_err-quantity-2 in
    let p = err_from_is_err_and r.result r.ensures.1 in
    let s = told_ok _ _ _ c.in_ok-quantity.ensures in
    let t = told_err _ _ _ c.in_err-quantity-2.ensures in
    rw (p.1, p.2, t.1, ← x, s.0, ← y, t.0)

pub returns-in_err-quantity-3 : goal.returns-in_err-quantity-3
unfolding tranche_call tranche_input
returns-in_err-quantity-3 c =
    let x : to_z w64 (of_z w64 c.args.rvq) ≡ c.args.rvq = search rules in
    let y : to_z w64 (of_z w64 c.args.bvq) ≡ c.args.bvq = search rules in
    let z : to_z w64 (of_z w64 c.args.mq) ≡ c.args.mq = search rules in
    let r = c.from_residual-in_err-quantity-3 in
    let p = err_from_is_err_and r.result r.ensures.1 in
    let s = told_ok _ _ _ c.in_ok-quantity.ensures in
    let t = told_ok _ _ _ c.in_ok-quantity-2.ensures in
    let u = told_err _ _ _ c.in_err-quantity-3.ensures in
    rw (p.1, p.2, u.1, ← x, s.0, ← y, t.0, ← z, u.0)

pub returns : goal.returns
unfolding tranche_call tranche_input
returns c =
    let x : to_z w64 (of_z w64 c.args.rvq) ≡ c.args.rvq = search rules in
    let y : to_z w64 (of_z w64 c.args.bvq) ≡ c.args.bvq = search rules in
    let z : to_z w64 (of_z w64 c.args.mq) ≡ c.args.mq = search rules in
    let s = told_ok _ _ _ c.in_ok-quantity.ensures in
    let t = told_ok _ _ _ c.in_ok-quantity-2.ensures in
    let u = told_ok _ _ _ c.in_ok-quantity-3.ensures in
    rw (c.split.ensures, s.1, t.1, u.1, x, y, z, rw x at s.0, rw y at t.0, rw z at u.0)
