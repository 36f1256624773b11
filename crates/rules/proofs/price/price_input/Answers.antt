-- `price_input` meets its contract: its tests are those of `price_input`.
use Rattle.std.proofs.Common.{◌≡◌, refl, ◌&&◌, sym, ◌∙◌, true, false, rules, leb, length, eqb}
use Rattle.rulebook.specs.ReferencePrice.{most_facilities}
use Rattle.rulebook.specs.Calls.{price_input}
use Rattle.rules.proofs.price.price_input.Goals as goal

pub returns-then-not-contains : goal.returns-then-not-contains
unfolding price_input
returns-then-not-contains c =
    let n = length c.args.mep.now in
    let e : c.contains.result ≡ (leb 1 n && leb n most_facilities) = search rules in
    rw (sym e ∙ c.if-not-contains.true) refl

pub returns-then-ieq-n : goal.returns-then-ieq-n
unfolding price_input
returns-then-ieq-n c =
    let n = length c.args.mep.now in
    let e : c.contains.result ≡ (leb 1 n && leb n most_facilities) = search rules in
    let d : eqb (length c.args.ieq.now) n ≡ false = search rules in
    rw (sym e ∙ c.if-not-contains.false, d) refl

pub returns-then-all_in_range : goal.returns-then-all_in_range
unfolding price_input
returns-then-all_in_range c =
    let n = length c.args.mep.now in
    let e : c.contains.result ≡ (leb 1 n && leb n most_facilities) = search rules in
    let d : eqb (length c.args.ieq.now) n ≡ true = search rules in
    rw (sym e ∙ c.if-not-contains.false, d, sym c.all_in_range.ensures ∙ c.if-all_in_range.true, c.all_in_range-then-all_in_range.ensures) refl

pub returns-else-all_in_range : goal.returns-else-all_in_range
unfolding price_input
returns-else-all_in_range c =
    let n = length c.args.mep.now in
    let e : c.contains.result ≡ (leb 1 n && leb n most_facilities) = search rules in
    let d : eqb (length c.args.ieq.now) n ≡ true = search rules in
    rw (sym e ∙ c.if-not-contains.false, d, sym c.all_in_range.ensures ∙ c.if-all_in_range.false) c.if-all_in_range.false
