-- `with_facility` keeps the invariant: three facilities' sums leave room for a fourth's.
use Rattle.std.specs.Int.{w64}
use Rattle.std.proofs.Common.{rules, SFits}
use Rattle.std.proofs.lemmas.Int.{to_z-of_z}
use Rattle.integer.proofs.Bits.{got}
use Rattle.rules.specs.PriceSums.{within-added}
use Rattle.rules.proofs.price.Sums.with_facility.Goals as goal

pub invariant_of-result : goal.invariant_of-result
invariant_of-result c =
    let s = c.self.inside in
    let f : SFits w64 s.weighted = search rules in
    let g : SFits w64 s.simple = search rules in
    let w = c.weighted_more in
    rw (
      got w.result w.type_inv,
      w.ensures,
      got c.add.result c.add.type_inv,
      c.add.ensures,
      c.natural-weight.ensures,
      to_z-of_z w64 s.weighted f,
      to_z-of_z w64 s.simple g,
      to_z-of_z w64 c.args.mep c.ranges.mep,
      to_z-of_z w64 c.args.ieq c.ranges.ieq,
    ) (within-added _ c.args.mep c.args.ieq c.self.invariant c.requires.1 c.requires.2)
