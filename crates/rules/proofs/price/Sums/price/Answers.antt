-- `price` meets its contract: the test of the weights picks the average.
use Rattle.std.specs.Int.{w64}
use Rattle.std.proofs.Common.{rules, SFits}
use Rattle.std.proofs.lemmas.Int.{to_z-of_z}
use borrow.Author.Tests.{eq-eqb, ne_eqb}
use Rattle.integer.proofs.Bits.{got}
use Rattle.rulebook.specs.ReferencePrice.{average}
use Rattle.rules.proofs.price.Sums.price.Goals as goal

pub returns-then-self-eq0 : goal.returns-then-self-eq0
unfolding average
returns-then-self-eq0 c =
    let s = c.self.inside in
    let f : SFits w64 s.simple = search rules in
    rw (got c.nearest_to.result c.nearest_to.type_inv, c.nearest_to.ensures, to_z-of_z w64 s.simple f, ← c.self.view_is, eq-eqb s.weights 0 c.if-self-eq0.true)

pub returns-else-self-eq0 : goal.returns-else-self-eq0
unfolding average
returns-else-self-eq0 c =
    let s = c.self.inside in
    let f : SFits w64 s.weighted = search rules in
    let r = c.nearest_to-else-self-eq0 in
    rw (got r.result r.type_inv, r.ensures, to_z-of_z w64 s.weighted f, ← c.self.view_is, ne_eqb s.weights 0 c.if-self-eq0.false)
