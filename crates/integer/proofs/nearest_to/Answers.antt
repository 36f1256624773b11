-- The laws that join signed division with `nearest`, at the two ways of the test.
use Rattle.std.proofs.Common.{◌≤◌, ◌<◌, ◌^◌, ℕ, ℤ, pos, nat_abs, ◌+ℤ◌, SFits, to_z, of_z, sym, ap, ◌∙◌}
use Rattle.std.proofs.Math.Nat.{div-le_self, mod-lt}
use Rattle.std.specs.Int.{w64}
use lib.Signed.{quot_z, rem_z}
use Rattle.integer.specs.Integer.{with_sign}
use Rattle.integer.proofs.laws.IntegerLaws.{int, fits-abs, with_sign-abs}
use Rattle.integer.proofs.Bits.{Holds, holds, holds-nat, holds_as, holds-ok, op_fits, op_holds, fits-add}
use Rattle.integer.proofs.laws.NearestLaws.{quotient-abs, remainder-abs, nearest-cut, nearest-away}
use Rattle.integer.proofs.nearest_to.Goals as goal
use Rattle.integer.proofs.nearest_to.Goals.{After-with_sign}

module _ (z : ℤ) (d : ℕ) (f : SFits w64 z) (h : (nat_abs z ≤ 2 ^ 62) × ((0 < d) × (d ≤ 2 ^ 62))) where
  divisor : Holds d (pos d)
  divisor = holds-nat d (omega int)

  quotient_small : nat_abs (quot_z z (pos d)) ≤ 2 ^ 62
  quotient_small = omega (int, quotient-abs z d, div-le_self (nat_abs z) d)

  remainder_small : nat_abs (rem_z z (pos d)) < 2 ^ 62
  remainder_small = omega (int, remainder-abs z d, mod-lt (nat_abs z) h.1.0)

  quotient : Holds (of_z w64 (quot_z (to_z w64 (of_z w64 z)) (to_z w64 d))) (quot_z z (pos d))
  quotient = op_holds quot_z (holds f) divisor (fits-abs (omega (int, quotient_small)))

  remainder : Holds (of_z w64 (rem_z (to_z w64 (of_z w64 z)) (to_z w64 d))) (rem_z z (pos d))
  remainder = op_holds rem_z (holds f) divisor (fits-abs (omega (int, remainder_small)))

  sum_fits : SFits w64 (quot_z z (pos d) +ℤ with_sign z 1)
  sum_fits = fits-add (quot_z z (pos d)) (with_sign z 1) (omega (int, quotient_small, with_sign-abs z 1))

-- what the call adds
one : (c : After-with_sign) → Holds (of_z w64 c.with_sign.result) (with_sign c.args.z 1)
one c = holds_as (c.with_sign.ensures ∙ ap (λ (x : ℤ). with_sign x 1) (holds c.ranges.z).is) (holds-ok c.with_sign.result c.with_sign.type_inv)

pub overflow_add-result : goal.overflow_add-result
overflow_add-result c =
    op_fits ◌+ℤ◌ (quotient c.args.z c.args.d c.ranges.z c.requires) (one (goal.at.overflow_add-result c).After-with_sign) (sum_fits c.args.z c.args.d c.ranges.z c.requires)

pub returns-then-unsigned_abs-d : goal.returns-then-unsigned_abs-d
returns-then-unsigned_abs-d c =
    let m = ap nat_abs (remainder c.args.z c.args.d c.ranges.z c.requires).is in
    (quotient c.args.z c.args.d c.ranges.z c.requires).is ∙ sym (nearest-cut c.args.z c.args.d (omega (int, c.if-unsigned_abs-d.true, c.unsigned_abs.ensures.value, m)))

pub returns-else-unsigned_abs-d : goal.returns-else-unsigned_abs-d
returns-else-unsigned_abs-d c =
    let m = ap nat_abs (remainder c.args.z c.args.d c.ranges.z c.requires).is in
    (op_holds ◌+ℤ◌ (quotient c.args.z c.args.d c.ranges.z c.requires) (one (goal.at.returns-else-unsigned_abs-d c).After-with_sign) (sum_fits c.args.z c.args.d c.ranges.z c.requires)).is
    ∙ sym (nearest-away c.args.z c.args.d c.requires.1.0 (omega (int, c.if-unsigned_abs-d.false, c.unsigned_abs.ensures.value, m)))
