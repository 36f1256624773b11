-- `day_at` meets its contract: its tests are those of `place_dated`, and then whether the day is closed.
use Rattle.std.proofs.Common.{◌+◌, ◌-◌, ap, arith, le-leb, le-ltb, lt-ltb}
use Rattle.std.proofs.lemmas.Bool.{lt-leb}
use Rattle.std.proofs.Math.Bool.{and-false}
use Rattle.rulebook.specs.declared.Terms.{Terms}
use Rattle.rulebook.specs.Layout.{ring}
use Rattle.rulebook.specs.Units.{last_day}
use Rattle.rulebook.specs.WindowWalk.{place_dated}
use Rattle.rulebook.proofs.laws.WalkLaws.{place-early}
use Rattle.book.specs.Slots.{day_at}
use Rattle.book.proofs.slots.day_at.Goals as goal

pub overflow_add-at : goal.overflow_add-at
unfolding ring
overflow_add-at c = let t = c.get-terms.ensures.accepted in omega arith

pub overflow_add-terms : goal.overflow_add-terms
unfolding ring
overflow_add-terms c = let t = c.get-terms.ensures.accepted in let e = ap (λ (o : Terms). o.first) c.get-terms.ensures.same in omega arith

pub returns-then-at-terms : goal.returns-then-at-terms
unfolding day_at
returns-then-at-terms c =
    let t = c.args.terms in
    let e = ap (λ (o : Terms). o.lag) c.get-terms.ensures.same in
    rw (place-early t c.args.closes c.args.place (omega arith))

pub returns-then-terms-at-gt-LAST_DAY : goal.returns-then-terms-at-gt-LAST_DAY
unfolding day_at place_dated
returns-then-terms-at-gt-LAST_DAY c =
    let t = c.args.terms in
    let k = c.args.closes in
    let e = ap (λ (o : Terms). o.first) c.get-terms.ensures.same in
    let f = ap (λ (o : Terms). o.lag) c.get-terms.ensures.same in
    rw (lt-leb (t.first + (k + c.args.place - t.lag)) last_day (omega arith), and-false)

pub returns-then-place-terms : goal.returns-then-place-terms
unfolding day_at place_dated
returns-then-place-terms c =
    let t = c.args.terms in
    let k = c.args.closes in
    let e = ap (λ (o : Terms). o.first) c.get-terms.ensures.same in
    let f = ap (λ (o : Terms). o.lag) c.get-terms.ensures.same in
    rw (le-leb t.lag (k + c.args.place) (omega arith), le-leb (t.first + (k + c.args.place - t.lag)) last_day (omega arith), lt-ltb c.args.place t.lag (omega arith))

pub returns-else-place-terms : goal.returns-else-place-terms
unfolding day_at place_dated
returns-else-place-terms c =
    let t = c.args.terms in
    let k = c.args.closes in
    let e = ap (λ (o : Terms). o.first) c.get-terms.ensures.same in
    let f = ap (λ (o : Terms). o.lag) c.get-terms.ensures.same in
    rw (le-leb t.lag (k + c.args.place) (omega arith), le-leb (t.first + (k + c.args.place - t.lag)) last_day (omega arith), le-ltb c.args.place t.lag (omega arith))
