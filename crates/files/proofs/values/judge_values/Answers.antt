-- `judge_values` meets its contract: the values before k are accepted, and each turn's test is that of value k.
use Rattle.std.proofs.Common.{rules, sym, ap, ◌∙◌, arith, ◌≡◌, ◌+◌, ◌*◌, ◌≤◌, ◌/◌, drop, length, length-drop, length-append, ℕ}
use Rattle.integer.proofs.Bits.{got}
use Rattle.rulebook.specs.Units.{in_range}
use Rattle.rulebook.specs.Sections.{kind_of}
use Rattle.rulebook.specs.File.{value_at}
use Rattle.files.proofs.laws.FieldsLaws.{up_none, up_more, up_stops}
use Rattle.files.proofs.laws.ValuesLaws.{chunk-value, chunk-rest, value-cut, value-off, value-fine}
use Rattle.files.proofs.values.judge_values.Goals as goal
use Rattle.files.proofs.values.judge_values.Goals.{After-in_range, After-into_iter-k-iterator}

-- the bytes of value k are the part's next four
module _ (c : After-in_range) where
  next : c.loop-k.k-iterator.count ≡ c.in-Some.k
  next = sym c.in-Some.ensures.steps.1

  whole : 4 * c.in-Some.k + 4 ≤ length c.args.part.now
  whole =
      let s = c.in-Some.ensures.steps in
      let i = c.loop-k.invariant in
      omega (arith, next, s.0.1.1, i.2, length-drop (4 * c.loop-k.k-iterator.count) c.args.part.now, ap length i.3, simp length-append at (ap length s.0.1.0))

  tested : c.in_range.result ≡ in_range (kind_of c.args.section c.in-Some.k) (value_at c.args.part.now (4 * c.in-Some.k))
  tested =
      let s = c.in-Some.ensures.steps in
      let i = c.loop-k.invariant in
      let v = rw next at (chunk-value c.args.part.now c.in-Some.bytes.now c.next.new.self.iter.rest.now (4 * c.loop-k.k-iterator.count) (sym i.3 ∙ s.0.1.0) (s.0.1.1 ∙ i.2)) in
      let z = got c.value_at.result c.value_at.type_inv in
      let e = c.value_at.ensures.0 in
      let k = c.kind_of.ensures in
      let r = c.in_range.ensures in
      cc

-- none is looked at yet
begun : (c : After-into_iter-k-iterator) → c.into_iter-k-iterator.result.count ≡ 0
begun c = ap (λ x. x.count) c.into_iter-k-iterator.ensures.into_iter_gives ∙ c.enumerate-k-items.ensures.count

pub loop-k-init : goal.loop-k-init
loop-k-init c =
    let e = begun (goal.at.loop-k-init c).After-into_iter-k-iterator in
    (search rules, search rules, search rules, search rules, omega arith, rw e (up_none _))

pub returns-then-not-in_range : goal.returns-then-not-in_range
returns-then-not-in_range c =
    let a = (goal.at.returns-then-not-in_range c).After-in_range in
    let w = whole a in
    sym (up_stops _ _ c.in-Some.k _ (omega arith) (rw (next a) at c.loop-k.invariant.5) (value-off _ _ _ c.in-Some.k w (sym (tested a) ∙ c.if-not-in_range.true)))

pub loop-k-preserved : goal.loop-k-preserved
loop-k-preserved c =
    let a = (goal.at.loop-k-preserved c).After-in_range in
    let i = c.loop-k.invariant in
    let s = c.in-Some.ensures.steps in
    let w = whole a in (
      search rules,
      search rules,
      search rules,
      chunk-rest c.args.part.now c.in-Some.bytes.now c.next.new.self.iter.rest.now (4 * c.loop-k.k-iterator.count) (sym i.3 ∙ s.0.1.0) (s.0.1.1 ∙ i.2)
          ∙ ap (λ (n : ℕ). drop n c.args.part.now) (omega (arith, s.2)),
      omega (arith, s.2),
      rw s.2 (up_more c.loop-k.k-iterator.count _ i.5 (rw (← next a) at (value-fine c.args.section c.args.part.now c.args.from c.in-Some.k w (sym (tested a) ∙ c.if-not-in_range.false)))),
    )

pub returns-then-whole-n : goal.returns-then-whole-n
returns-then-whole-n c =
    let i = c.loop-k.invariant in
    let s = c.in-None.ensures.steps in
    let d = length-drop (4 * c.loop-k.k-iterator.count) c.args.part.now in
    let l = ap length i.3 in
    let e : length c.args.part.now / 4 ≡ c.loop-k.k-iterator.count = omega arith in
    sym (up_stops _ _ c.loop-k.k-iterator.count _ (omega arith) i.5 (rw e (value-cut _ _ _ c.loop-k.k-iterator.count (omega arith))))
