-- The definition at no byte, one and two.
use Rattle.std.proofs.Common.{◌≡◌, refl, arith}
use Rattle.rulebook.specs.File.{num}
use Rattle.rulebook.proofs.file.number.Goals as goal

pub returns-in-0 : goal.returns-in-0
unfolding num
returns-in-0 c = rw c.in-0.is (refl, omega arith)

pub returns-in-1 : goal.returns-in-1
unfolding num
returns-in-1 c = rw c.in-1.is (omega arith, omega arith)

pub returns-in_default : goal.returns-in_default
unfolding num
returns-in_default c =
    let n : c.args.n ≡ 2 = omega arith in
    rw n (omega arith, omega arith)
