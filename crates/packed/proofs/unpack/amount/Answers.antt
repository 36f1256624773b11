-- `amount` meets its contract: the magnitude with the sign that its last half byte has.
use mathlib.Core.Path.{◌≡◌, ap, ◌∙◌}
use Prim.Native.Nat.{ℕ, ◌%◌}
use native.Mathlib.Omega.{arith}
use borrow.Author.Tests.{ne_eqb}
use lib.IntN.{pos, ◌-ℤ◌}
use lib.ListN.{get_or}
use mir.Syntax.{w64}
use mir.Val.{to_z, of_z}
use mir.ValLaws.{to_z-of_z}
use Rattle.integer.specs.Integer.{minus}
use Rattle.integer.proofs.Bits.{got, fits_sub}
use Rattle.integer.proofs.laws.IntegerLaws.{parts-eq, sub_parts, neg_parts}
use Rattle.packed.specs.Packed.{minus_sign, sign_at, magnitude_at, amount_at}
use Rattle.packed.proofs.laws.PairLaws.{half-odd}
use Rattle.packed.proofs.unpack.amount.Goals as goal

below-zero : (n : ℕ) → pos 0 -ℤ pos n ≡ minus n
below-zero n = parts-eq (pos 0 -ℤ pos n) (minus n) (omega (arith, sub_parts (pos 0) (pos n), neg_parts (pos n)))

pub returns-else-field-eq-MINUS : goal.returns-else-field-eq-MINUS
unfolding amount_at
returns-else-field-eq-MINUS c =
    let a = c.args in
    let r = c.signed-m in
    let m = c.magnitude in
    let x : to_z w64 (of_z w64 r.result) ≡ pos m.result = got r.result r.type_inv ∙ r.ensures in
    rw (x, half-odd a.field.now 0 7, ne_eqb (get_or a.field.now 7 0 % 16) minus_sign c.if-field-eq-MINUS.false) (ap pos m.ensures.0)

pub returns-then-field-eq-MINUS : goal.returns-then-field-eq-MINUS
unfolding amount_at
returns-then-field-eq-MINUS c =
    let a = c.args in
    let r = c.signed-m in
    let m = c.magnitude in
    let x : to_z w64 (of_z w64 r.result) ≡ pos m.result = got r.result r.type_inv ∙ r.ensures in
    let h : sign_at a.field.now 0 ≡ minus_sign = half-odd a.field.now 0 7 ∙ c.if-field-eq-MINUS.true in
    let fits = fits_sub (pos 0) (pos m.result) (omega (arith, m.ensures.1)) in
    rw (x, h, to_z-of_z w64 _ fits, m.ensures.0) (below-zero (magnitude_at a.field.now 0))
