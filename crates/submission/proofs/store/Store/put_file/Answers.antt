-- `put_file` meets its contract: each section is stored where the one before it ended.
use Rattle.std.proofs.Common.{◌≡◌, ap, ◌∙◌}
use Rattle.rulebook.specs.declared.Section.TheVariants.{Meter, Residual}
use Rattle.rulebook.specs.File.{meter_pos, residual_pos, ncc_pos, section_end}
use Rattle.rulebook.specs.Submit.{rows_stored}
use Rattle.submission.proofs.laws.StoredLaws.{rows_four}
use Rattle.submission.proofs.store.Store.put_file.Goals as goal
use Rattle.submission.proofs.store.Store.put_file.Goals.{After-put_section-meter, After-put_section-ncc, After-put_section-residual}

-- where each section ended
meter : (c : After-put_section-meter) → c.put_section-meter.result ≡ meter_pos c.args.file.now
meter c = c.put_section-meter.ensures.past

residual : (c : After-put_section-residual) → c.put_section-residual.result ≡ residual_pos c.args.file.now
residual c = c.put_section-residual.ensures.past ∙ ap (section_end Meter c.args.file.now) c.put_section-meter.ensures.past

ncc : (c : After-put_section-ncc) → c.put_section-ncc.result ≡ ncc_pos c.args.file.now
ncc c = c.put_section-ncc.ensures.past ∙ ap (section_end Residual c.args.file.now) (c.put_section-residual.ensures.past ∙ ap (section_end Meter c.args.file.now) c.put_section-meter.ensures.past)

pub put_section-residual-requires : goal.put_section-residual-requires
put_section-residual-requires c =
    rw (c.put_section-meter.ensures.terms, meter (goal.at.put_section-residual-requires c).After-put_section-meter) c.requires.meter

pub put_section-ncc-requires : goal.put_section-ncc-requires
put_section-ncc-requires c =
    rw (c.put_section-residual.ensures.terms, c.put_section-meter.ensures.terms, residual (goal.at.put_section-ncc-requires c).After-put_section-residual) c.requires.residual

pub put_section-requires : goal.put_section-requires
put_section-requires c =
    rw (c.put_section-ncc.ensures.terms, c.put_section-residual.ensures.terms, c.put_section-meter.ensures.terms, ncc (goal.at.put_section-requires c).After-put_section-ncc) c.requires.ncc

pub returns-clause-words : goal.returns-clause-words
returns-clause-words c =
    let t1 = c.put_section-meter.ensures.terms in
    let t2 = c.put_section-residual.ensures.terms in
    let t3 = c.put_section-ncc.ensures.terms in
    let p1 = c.put_section-meter.ensures.words in
    let p2 = rw (t1, meter (goal.at.returns-clause-words c).After-put_section-meter) at c.put_section-residual.ensures.words in
    let p3 = rw (t2, t1, residual (goal.at.returns-clause-words c).After-put_section-residual) at c.put_section-ncc.ensures.words in
    let p4 = rw (t3, t2, t1, ncc (goal.at.returns-clause-words c).After-put_section-ncc) at c.put_section.ensures.words in
    let o = c.args.self.now.terms in
    rw rows_four (p4 ∙ ap (rows_stored o _) (p3 ∙ ap (rows_stored o _) (p2 ∙ ap (rows_stored o _) p1)))
