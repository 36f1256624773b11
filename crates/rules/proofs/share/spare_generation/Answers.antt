-- `spare_generation` meets its contract. The invariant: every UEGQ so far is a quantity, and the total is their sum, within 32 quantities.
use Rattle.std.specs.Int.{w64}
use Rattle.std.proofs.Common.{◌≡◌, ℕ, true, false, length, ap, ◌∙◌, arith, rules, ◌+◌, Ok, to_z, of_z}
use Rattle.std.proofs.lemmas.Result.{err_from_is_err_and}
use Rattle.integer.specs.Below.{fold, sum_ℕ}
use Rattle.integer.proofs.laws.BelowLaws.{fold_step, all_more, all_fails}
use Rattle.integer.specs.Words.{word}
use Rattle.rulebook.specs.declared.Kind.TheVariants.{Quantity}
use Rattle.rulebook.specs.Units.{in_range, as_quantity}
use Rattle.rulebook.specs.Calls.{all_in_range, quantities_in}
use Rattle.rulebook.proofs.laws.CallsLaws.{quantities-below}
use Rattle.rules.proofs.laws.ToldLaws.{told_ok, told_err}
use Rattle.rules.proofs.share.spare_generation.Goals as goal
use Rattle.rules.proofs.share.spare_generation.Goals.{In_ok-total}

pub loop-u-init : goal.loop-u-init
unfolding fold
loop-u-init c = search rules

pub returns-in_err-total : goal.returns-in_err-total
unfolding all_in_range
returns-in_err-total c =
    let xs = c.args.uegq.now in
    let p = err_from_is_err_and c.from_residual.result c.from_residual.ensures.1 in
    let x : to_z w64 (of_z w64 (word xs c.loop-u.u-index)) ≡ word xs c.loop-u.u-index = search rules in
    let t = told_err _ _ _ c.in_err-total.ensures in
    let z : in_range Quantity (to_z w64 (of_z w64 (word xs c.loop-u.u-index))) ≡ false = t.0 in
    rw (p.1, p.2, t.1, all_fails (length xs) (λ i. in_range Quantity (word xs i)) c.loop-u.u-index c.loop-u-test.true (rw x at z))

-- the turn's word is a quantity
judged : (c : In_ok-total) → (in_range Quantity (word c.args.uegq.now c.loop-u.u-index) ≡ true) × (c.in_ok-total.field-0 ≡ quantities_in c.args.uegq.now c.loop-u.u-index)
judged c =
    let w = word c.args.uegq.now c.loop-u.u-index in
    let x : to_z w64 (of_z w64 w) ≡ w = search rules in
    let t : (in_range Quantity (to_z w64 (of_z w64 w)) ≡ true) × (c.in_ok-total.field-0 ≡ as_quantity (to_z w64 (of_z w64 w))) = told_ok _ _ _ c.in_ok-total.ensures in
    (rw x at t.0, rw x at t.1)

pub overflow_add-total : goal.overflow_add-total
overflow_add-total c =
    let xs = c.args.uegq.now in
    let l = c.loop-u in
    let j = judged (goal.at.overflow_add-total c).In_ok-total in
    let m = all_more l.u-index (λ i. in_range Quantity (word xs i)) l.invariant.0 j.0 in
    let s = fold_step ◌+◌ 0 l.u-index (quantities_in xs) l.invariant.1 j.1 in
    omega (arith, s, quantities-below xs (l.u-index + 1) m, c.requires, c.loop-u-test.true)

pub loop-u-preserved : goal.loop-u-preserved
loop-u-preserved c =
    let xs = c.args.uegq.now in
    let l = c.loop-u in
    let j = judged (goal.at.loop-u-preserved c).In_ok-total in
    (all_more l.u-index (λ i. in_range Quantity (word xs i)) l.invariant.0 j.0, fold_step ◌+◌ 0 l.u-index (quantities_in xs) l.invariant.1 j.1)

pub returns : goal.returns
unfolding all_in_range
returns c =
    let xs = c.args.uegq.now in
    let l = c.loop-u in
    let e : l.u-index ≡ length xs = omega arith in
    rw (rw e at l.invariant.0) (ap Ok (l.invariant.1 ∙ ap (λ (n : ℕ). sum_ℕ n (quantities_in xs)) e))
