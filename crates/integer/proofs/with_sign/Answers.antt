-- The test of z's sign picks the clause of `with_sign`.
use Rattle.std.proofs.Common.{◌≡◌, ◌<◌, pos, to_z-of_z, sym, ◌∙◌}
use Rattle.std.proofs.lemmas.Int.{to_z_pos}
use Rattle.std.proofs.Math.IntN.{+ℤ_idl}
use Rattle.std.specs.Int.{w64}
use Rattle.integer.specs.Integer.{negative}
use Rattle.integer.proofs.laws.IntegerLaws.{int, with_sign-negative, with_sign-positive}
use Rattle.integer.proofs.Bits.{known, fits_neg}
use Rattle.integer.proofs.with_sign.Goals as goal

pub returns-then-z-lt0 : goal.returns-then-z-lt0
returns-then-z-lt0 c =
    let k : 0 < negative c.args.z = omega (int, known c.ranges.z) in
    let h = fits_neg (pos c.args.m) c.requires in
    simp (to_z_pos w64 c.args.m c.requires, to_z-of_z, h, with_sign-negative c.args.z c.args.m k, +ℤ_idl)

pub returns-else-z-lt0 : goal.returns-else-z-lt0
returns-else-z-lt0 c =
    let k : negative c.args.z ≡ 0 = omega (int, known c.ranges.z) in
    to_z_pos w64 c.args.m c.requires ∙ sym (with_sign-positive c.args.z c.args.m k)
