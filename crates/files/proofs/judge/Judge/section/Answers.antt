-- `section` meets its contract: before each row the marks say which accounts and days were given, and the row judge keeps them so.
use Rattle.std.proofs.Common.{rules, ◌≡◌, length, refl, sym, ap, ◌∙◌, arith, List, ℕ, Bor}
use Rattle.std.proofs.lemmas.Result.{err_from_is_err_and}
use Rattle.files.proofs.laws.FieldsLaws.{up_none, up_stops}
use Rattle.files.specs.Marks.{unmarked}
use Rattle.files.proofs.laws.MarksLaws.{unmarked-filled}
use Rattle.files.proofs.laws.RowsLaws.{pos-none, before_none, before-judged, before-next, section-cut, section-rows, section-past}
use Rattle.files.proofs.judge.Judge.section.Goals as goal

pub returns-in_err-count-clause-answer : goal.returns-in_err-count-clause-answer
returns-in_err-count-clause-answer c =
    let p = err_from_is_err_and c.from_residual.result c.from_residual.ensures.1 in
    rw (p.1, p.2) (sym (section-cut _ _ _ _ c.in_err-count.ensures.answer))

pub returns-then-count-eq0-clause-answer : goal.returns-then-count-eq0-clause-answer
returns-then-count-eq0-clause-answer c =
    sym (section-rows _ _ _ _ _ c.in_ok-count.ensures.answer ∙ rw c.if-count-eq0.true (up_none _))

pub returns-then-count-eq0-clause-past : goal.returns-then-count-eq0-clause-past
returns-then-count-eq0-clause-past c =
    c.in_ok-count.ensures.past ∙ sym (section-past c.args.self.now.limits _ _ _ _ c.in_ok-count.ensures.answer ∙ rw c.if-count-eq0.true (pos-none _ _ _))

pub loop-init : goal.loop-init
loop-init c =
    let m = c.args.self.now.marks.now in
    let e : c.fill.new.self ≡ unmarked (length m) = c.fill.ensures.after (λ y h. search rules) ∙ unmarked-filled (length m) in
    record { limits = refl; file = refl; before = rw e (before_none c.args.self.now.limits c.args.section c.take.new.self.file.now c.take.new.self.at (length m) c.args.self.now.judgeable c.take.new.self.inside) }

pub returns-in_err-row-clause-answer : goal.returns-in_err-row-clause-answer
returns-in_err-row-clause-answer c =
    let p = err_from_is_err_and c.from_residual-in_err-row.result c.from_residual-in_err-row.ensures.1 in
    let i = c.loop.invariant in
    let f = ap (λ (f : Bor (List ℕ)). f.now) c.take.ensures.file in
    let j = before-judged _ _ _ _ i.before i.limits (ap (λ (f : Bor (List ℕ)). f.now) i.file) _ c.in_err-row.ensures.answer in
    rw (p.1, p.2)
    (sym (section-rows _ _ _ _ _ c.in_ok-count.ensures.answer ∙ up_stops _ _ c.loop.counter _ (omega arith) (rw (f, c.in_ok-count.ensures.past) at i.before.accepted) (rw (f, c.in_ok-count.ensures.past) at (sym j))))

pub loop-preserved : goal.loop-preserved
loop-preserved c =
    let i = c.loop.invariant in
    record {
      limits = c.row.ensures.limits ∙ i.limits;
      file = c.row.ensures.file ∙ i.file;
      before = before-next _ _ _ _ i.before i.limits (ap (λ (f : Bor (List ℕ)). f.now) i.file) c.in_ok-row.ensures.answer c.in_ok-row.ensures.past c.row.ensures.marks;
    }

pub returns-clause-answer : goal.returns-clause-answer
returns-clause-answer c =
    let e : c.loop.counter ≡ c.in_ok-count.count = omega arith in
    sym (section-rows _ _ _ _ _ c.in_ok-count.ensures.answer ∙ (rw (e, ap (λ (f : Bor (List ℕ)). f.now) c.take.ensures.file, c.in_ok-count.ensures.past) at c.loop.invariant.before.accepted))

pub returns-clause-past : goal.returns-clause-past
returns-clause-past c =
    let e : c.loop.counter ≡ c.in_ok-count.count = omega arith in
    c.loop.invariant.before.place ∙ rw (e, ap (λ (f : Bor (List ℕ)). f.now) c.take.ensures.file, c.in_ok-count.ensures.past) (sym (section-past c.args.self.now.limits _ _ _ _ c.in_ok-count.ensures.answer))
