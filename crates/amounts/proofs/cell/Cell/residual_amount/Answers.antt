-- `residual_amount` meets its contract: the share is a quantity and splits into two tranches, so both amounts are within 2 × 10^13.
use mathlib.Core.Path.{◌≡◌, refl, ap, ◌∙◌}
use Prim.Native.Nat.{ℕ, ◌-◌, ◌≤◌}
use native.Mathlib.Omega.{arith}
use borrow.Author.Rules.{rules}
use lib.IntN.{ℤ, pos, nat_abs, ◌-ℤ◌, ◌*ℤ◌}
use mir.Syntax.{w64}
use mir.Val.{to_z, of_z}
use Rattle.integer.proofs.Bits.{got}
use Rattle.integer.specs.Words.{word}
use Rattle.rulebook.specs.Units.{as_quantity}
use Rattle.rulebook.specs.Tranches.{tranche1, tranche2}
use Rattle.rulebook.proofs.laws.TranchesLaws.{tranche-split}
use Rattle.rulebook.specs.DayAmount.{share_amount}
use Rattle.rulebook.proofs.laws.SizeLaws.{first-tranche_size, second-tranche_size}
use Rattle.amounts.specs.Cell.{cell_data}
use Rattle.amounts.proofs.laws.CellLaws.{priced-cong, tranche-cong, sum_cong}
use Rattle.amounts.proofs.cell.Cell.residual_amount.Goals as goal
use Rattle.amounts.proofs.cell.Cell.residual_amount.Goals.{After-first_tranche-first}

-- the share's tranches, of the cell, and V, read back
module _ (c : After-first_tranche-first) where
  first-is : c.first_tranche-first.result ≡ tranche1 c.args.share (as_quantity (word c.args.self.words.now 1)) (as_quantity (word c.args.self.words.now 20))
  first-is = c.first_tranche-first.ensures ∙ tranche-cong refl c.quantity.ensures.0 c.quantity-2.ensures.0

  second-is : c.args.share - c.first_tranche-first.result ≡ tranche2 c.args.share (as_quantity (word c.args.self.words.now 1)) (as_quantity (word c.args.self.words.now 20))
  unfolding tranche2
  second-is = ap (λ (t : ℕ). c.args.share - t) first-is

  first-le : c.first_tranche-first.result ≤ c.args.share
  first-le = omega (arith, first-is, (tranche-split c.args.share (as_quantity (word c.args.self.words.now 1)) (as_quantity (word c.args.self.words.now 20))).share)

  price : to_z w64 (of_z w64 c.args.v) ≡ c.args.v
  price = search rules

  price-le : nat_abs (to_z w64 (of_z w64 c.args.v)) ≤ 1000000
  price-le = rw price c.requires.0

pub priced-one-requires : goal.priced-one-requires
priced-one-requires c =
    let e = c.args.self.ranged.whole in
    let b = (goal.at.priced-one-requires c).After-first_tranche-first in
    (omega arith, c.args.self.ranged.sized.rvp1, price-le b, omega (arith, first-le b, c.requires.1))

pub overflow_sub-share : goal.overflow_sub-share
overflow_sub-share c = first-le (goal.at.overflow_sub-share c).After-first_tranche-first

-- an amount, read back
amount : (price : ℤ) {r v v' : ℤ} {q q' : ℕ} → to_z w64 (of_z w64 r) ≡ r → r ≡ (price -ℤ v) *ℤ pos q → v ≡ v' → q ≡ q'
    → to_z w64 (of_z w64 r) ≡ (price -ℤ v') *ℤ pos q'
amount price g e f h = g ∙ e ∙ priced-cong price f h

pub add-requires : goal.add-requires
add-requires c =
    let b = (goal.at.add-requires c).After-first_tranche-first in
    let w = c.args.self.words.now in
    let d = cell_data w in
    let v = c.args.v in
    let s = c.args.share in
    let one = amount (word w 21) (got c.priced-one.result c.priced-one.type_inv) c.priced-one.ensures (price b) (first-is b) in
    let two = amount (word w 22) (got c.priced.result c.priced.type_inv) c.priced.ensures (price b) (second-is b) in
    rw (one, two) (omega (arith, first-tranche_size d c.args.self.ranged.sized v c.requires.0 s c.requires.1, second-tranche_size d c.args.self.ranged.sized v c.requires.0 s c.requires.1))

pub returns : goal.returns
unfolding share_amount
returns c =
    let b = (goal.at.returns c).After-first_tranche-first in
    let w = c.args.self.words.now in
    let one = amount (word w 21) (got c.priced-one.result c.priced-one.type_inv) c.priced-one.ensures (price b) (first-is b) in
    let two = amount (word w 22) (got c.priced.result c.priced.type_inv) c.priced.ensures (price b) (second-is b) in
    got c.add.result c.add.type_inv ∙ c.add.ensures ∙ sum_cong one two
