-- `more_word` meets its contract: both halves of a magnitude are small, so neither step leaves the range.
use mathlib.Core.Path.{ap, ap₂, ◌∙◌}
use Prim.Native.Nat.{ℕ, ◌+◌, ◌*◌, ◌/◌, ◌%◌}
use lib.IntN.{nat_abs}
use mir.Syntax.{w64}
use mir.ValLaws.{to_z-of_z}
use Rattle.replay.specs.Digests.{more, sign, more_word}
use Rattle.replay.proofs.output.more_word.Goals as goal

pub returns : goal.returns
unfolding more_word
returns c =
    let z = to_z-of_z w64 c.args.z c.ranges.z in
    let m = c.unsigned_abs-size.ensures.value ∙ ap nat_abs z in
    let g = c.sign.ensures.0 ∙ ap sign z in
    let u = ap₂ (λ (a b : ℕ). 2 * (a / 4294967296) + b) m g in
    (c.more-2.ensures.0 ∙ ap₂ more (c.more.ensures.0 ∙ ap (more c.args.d) u) (ap (λ (a : ℕ). a % 4294967296) m), c.more-2.ensures.1)
