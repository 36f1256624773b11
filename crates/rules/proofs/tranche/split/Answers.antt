-- `split` meets its contract: tranche 1 is within the share, so the rest is tranche 2.
use Rattle.std.proofs.Common.{arith}
use Rattle.integer.proofs.Bits.{got}
use Rattle.rulebook.specs.Tranches.{tranche2}
use Rattle.rulebook.proofs.laws.TranchesLaws.{tranche-split}
use Rattle.rules.proofs.tranche.split.Goals as goal

pub signed-requires : goal.signed-requires
signed-requires c = let a = c.args in omega (arith, (tranche-split a.rvq a.bvq a.mq).share)

pub overflow_sub-rvq : goal.overflow_sub-rvq
overflow_sub-rvq c = let a = c.args in omega (arith, (tranche-split a.rvq a.bvq a.mq).share)

pub returns : goal.returns
unfolding tranche2
returns c =
    let x = got c.signed.result c.signed.type_inv in
    let y = got c.signed-2.result c.signed-2.type_inv in
    rw (x, y, c.signed.ensures, c.signed-2.ensures, c.first_tranche-first.ensures)
