-- `posted` meets its contract: 1,000 times the nearest cent is no further from zero than the largest total.
use Rattle.std.specs.Int.{w64}
use Rattle.std.proofs.Common.{◌≡◌, ◌≤◌, ℤ, pos, nat_abs, ◌-ℤ◌, ◌*ℤ◌, SFits, to_z, of_z, ap, ◌∙◌, arith}
use Rattle.std.proofs.lemmas.Int.{to_z-of_z}
use Rattle.integer.proofs.laws.IntegerLaws.{int, fits-abs, abs-mul_le}
use Rattle.integer.proofs.laws.NearestLaws.{nearest-abs}
use Rattle.integer.proofs.Bits.{got, fits_sub}
use Rattle.rulebook.specs.Units.{nearest}
use Rattle.rulebook.specs.DayAmount.{in_cents}
use Rattle.amounts.proofs.total.DayTotal.posted.Goals as goal
use Rattle.amounts.proofs.total.DayTotal.posted.Goals.{After-nearest_to-cents}

-- a total so small, and what it is in thousandths once it is rounded
module _ (z : ℤ) (h : nat_abs z ≤ 4800000000000000) where
  total-fits : SFits w64 z
  total-fits = fits-abs (omega (int, h))

  cents-small : nat_abs (in_cents z) ≤ 4800000000000
  cents-small = rw nearest-abs (omega arith)

  rounded-small : nat_abs (pos 1000 *ℤ in_cents z) ≤ 4800000000000000
  rounded-small = omega (arith, abs-mul_le (pos 1000) (in_cents z) 1000 4800000000000 (omega arith) cents-small)

  rounded-fits : SFits w64 (pos 1000 *ℤ in_cents z)
  rounded-fits = fits-abs (omega (int, rounded-small))

  left-fits : SFits w64 (z -ℤ pos 1000 *ℤ in_cents z)
  left-fits = fits_sub z (pos 1000 *ℤ in_cents z) (omega (int, h, rounded-small))

-- the total and the cents, read back
total : (c : After-nearest_to-cents) → to_z w64 (of_z w64 c.args.self.thousandths) ≡ c.args.self.thousandths
total c = to_z-of_z w64 _ (total-fits c.args.self.thousandths c.requires)

cents : (c : After-nearest_to-cents) → to_z w64 (of_z w64 c.nearest_to-cents.result) ≡ in_cents c.args.self.thousandths
cents c = got c.nearest_to-cents.result c.nearest_to-cents.type_inv ∙ c.nearest_to-cents.ensures ∙ ap (λ (z : ℤ). nearest z 1000) (total c)

rounded : (c : After-nearest_to-cents) → to_z w64 (of_z w64 (pos 1000 *ℤ to_z w64 (of_z w64 c.nearest_to-cents.result))) ≡ pos 1000 *ℤ in_cents c.args.self.thousandths
rounded c = rw (cents c) (to_z-of_z w64 _ (rounded-fits c.args.self.thousandths c.requires))

pub overflow_mul-result : goal.overflow_mul-result
overflow_mul-result c = rw (cents c) (rounded-fits c.args.self.thousandths c.requires)

pub overflow_sub-result : goal.overflow_sub-result
overflow_sub-result c =
    let g = (goal.at.overflow_sub-result c).After-nearest_to-cents in
    rw (total g, rounded g) (left-fits c.args.self.thousandths c.requires)

pub returns : goal.returns
returns c =
    let g = (goal.at.returns c).After-nearest_to-cents in
    rw (cents g, total g, to_z-of_z w64 _ (rounded-fits c.args.self.thousandths c.requires), to_z-of_z w64 _ (left-fits c.args.self.thousandths c.requires))
