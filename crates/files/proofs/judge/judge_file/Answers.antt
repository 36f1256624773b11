-- `judge_file` meets its contract: each section is judged where the one before it ended, and the end where the last ended.
use Rattle.std.proofs.Common.{◌≡◌, refl, ap, List, ℕ, Ok, Bor, le-leb}
use Rattle.std.proofs.lemmas.Bool.{lt-leb}
use Rattle.std.proofs.lemmas.Result.{err_from_is_err_and}
use Rattle.rulebook.specs.declared.Section.TheVariants.{Vesting, Meter, Residual, Ncc}
use Rattle.rulebook.specs.File.{meter_pos, residual_pos, ncc_pos, end_pos}
use Rattle.rulebook.specs.Judging.{judged_section, judged}
use Rattle.files.proofs.laws.RowsLaws.{Reached, section-refused, section-passed}
use Rattle.files.proofs.judge.judge_file.Goals as goal
use Rattle.files.proofs.judge.judge_file.Goals.{After-new-reader, In_ok-section, In_ok-section-2, In_ok-section-3, In_ok-section-4}

-- where the reader stands before each section, and what the sections before it gave

start : (c : After-new-reader) → Reached c.args.limits c.args.file.now 0 c.args.limits c.new-reader.result.file c.new-reader.result.at
start c = record { limits = refl; file = ap (λ (f : Bor (List ℕ)). f.now) c.new-reader.ensures.0; place = c.new-reader.ensures.1 }

one : (c : In_ok-section) → Reached c.args.limits c.args.file.now 0 c.args.limits c.new-reader.result.file c.new-reader.result.at
    → (judged_section c.args.limits Vesting c.args.file.now 0 ≡ Ok tt) × Reached c.args.limits c.args.file.now (meter_pos c.args.file.now) c.section.new.self.limits c.section.new.self.reader.file c.section.new.self.reader.at
one c h = section-passed Vesting h c.in_ok-section.ensures.answer c.in_ok-section.ensures.past c.section.ensures.file c.section.ensures.limits

two : (c : In_ok-section-2) → Reached c.args.limits c.args.file.now (meter_pos c.args.file.now) c.section.new.self.limits c.section.new.self.reader.file c.section.new.self.reader.at
    → (judged_section c.args.limits Meter c.args.file.now (meter_pos c.args.file.now) ≡ Ok tt)
    × Reached c.args.limits c.args.file.now (residual_pos c.args.file.now) c.section-2.new.self.limits c.section-2.new.self.reader.file c.section-2.new.self.reader.at
two c h = section-passed Meter h c.in_ok-section-2.ensures.answer c.in_ok-section-2.ensures.past c.section-2.ensures.file c.section-2.ensures.limits

three : (c : In_ok-section-3) → Reached c.args.limits c.args.file.now (residual_pos c.args.file.now) c.section-2.new.self.limits c.section-2.new.self.reader.file c.section-2.new.self.reader.at
    → (judged_section c.args.limits Residual c.args.file.now (residual_pos c.args.file.now) ≡ Ok tt)
    × Reached c.args.limits c.args.file.now (ncc_pos c.args.file.now) c.section-3.new.self.limits c.section-3.new.self.reader.file c.section-3.new.self.reader.at
three c h = section-passed Residual h c.in_ok-section-3.ensures.answer c.in_ok-section-3.ensures.past c.section-3.ensures.file c.section-3.ensures.limits

four : (c : In_ok-section-4) → Reached c.args.limits c.args.file.now (ncc_pos c.args.file.now) c.section-3.new.self.limits c.section-3.new.self.reader.file c.section-3.new.self.reader.at
    → (judged_section c.args.limits Ncc c.args.file.now (ncc_pos c.args.file.now) ≡ Ok tt)
    × Reached c.args.limits c.args.file.now (end_pos c.args.file.now) c.section-4.new.self.limits c.section-4.new.self.reader.file c.section-4.new.self.reader.at
four c h = section-passed Ncc h c.in_ok-section-4.ensures.answer c.in_ok-section-4.ensures.past c.section-4.ensures.file c.section-4.ensures.limits

pub returns-in_err-section : goal.returns-in_err-section
unfolding judged
returns-in_err-section c =
    let at = goal.at.returns-in_err-section c in
    let p = err_from_is_err_and c.from_residual.result c.from_residual.ensures.1 in
    rw (p.1, p.2, section-refused Vesting (start at.After-new-reader) _ c.in_err-section.ensures.answer)

pub returns-in_err-section-2 : goal.returns-in_err-section-2
unfolding judged
returns-in_err-section-2 c =
    let at = goal.at.returns-in_err-section-2 c in
    let p = err_from_is_err_and c.from_residual-in_err-section-2.result c.from_residual-in_err-section-2.ensures.1 in
    let a = one at.In_ok-section (start at.After-new-reader) in
    rw (p.1, p.2, a.0, section-refused Meter a.1 _ c.in_err-section-2.ensures.answer)

pub returns-in_err-section-3 : goal.returns-in_err-section-3
unfolding judged
returns-in_err-section-3 c =
    let at = goal.at.returns-in_err-section-3 c in
    let p = err_from_is_err_and c.from_residual-in_err-section-3.result c.from_residual-in_err-section-3.ensures.1 in
    let a = one at.In_ok-section (start at.After-new-reader) in
    let b = two at.In_ok-section-2 a.1 in
    rw (p.1, p.2, a.0, b.0, section-refused Residual b.1 _ c.in_err-section-3.ensures.answer)

pub returns-in_err-section-4 : goal.returns-in_err-section-4
unfolding judged
returns-in_err-section-4 c =
    let at = goal.at.returns-in_err-section-4 c in
    let p = err_from_is_err_and c.from_residual-in_err-section-4.result c.from_residual-in_err-section-4.ensures.1 in
    let a = one at.In_ok-section (start at.After-new-reader) in
    let b = two at.In_ok-section-2 a.1 in
    let d = three at.In_ok-section-3 b.1 in
    rw (p.1, p.2, a.0, b.0, d.0, section-refused Ncc d.1 _ c.in_err-section-4.ensures.answer)

pub returns-then-end-file : goal.returns-then-end-file
unfolding judged
returns-then-end-file c =
    let at = goal.at.returns-then-end-file c in
    let a = one at.In_ok-section (start at.After-new-reader) in
    let b = two at.In_ok-section-2 a.1 in
    let d = three at.In_ok-section-3 b.1 in
    let f = four at.In_ok-section-4 d.1 in
    rw (a.0, b.0, d.0, f.0, ← f.1.place, lt-leb _ _ c.if-end-file.true)

pub returns : goal.returns
unfolding judged
returns c =
    let at = goal.at.returns c in
    let a = one at.In_ok-section (start at.After-new-reader) in
    let b = two at.In_ok-section-2 a.1 in
    let d = three at.In_ok-section-3 b.1 in
    let f = four at.In_ok-section-4 d.1 in
    rw (a.0, b.0, d.0, f.0, ← f.1.place, le-leb _ _ c.if-end-file.false)
