-- `put_section` meets its contract: each turn stores the row where the one before it ended.
use Rattle.std.proofs.Common.{◌≡◌, refl, sym, ap, ◌∙◌, arith, ◌+◌}
use Rattle.rulebook.specs.File.{row_at, row_pos, row_end, rows_in, section_end}
use Rattle.rulebook.specs.Submit.{row_stored}
use Rattle.rulebook.specs.Units.{intervals}
use Rattle.files.proofs.laws.RowsLaws.{pos-none, pos-more}
use Rattle.submission.specs.Stored.{RowFits}
use Rattle.submission.proofs.laws.StoredLaws.{first-none, first_more, first-all}
use Rattle.submission.proofs.store.Store.put_section.Goals as goal
use Rattle.submission.proofs.store.Store.put_section.Goals.{In-loop}

-- the row of this turn
fits : (c : In-loop) → RowFits c.args.self.now.terms c.args.section c.args.file.now (row_pos c.args.section c.args.file.now (c.args.at + 2) c.loop.counter)
fits c = c.requires.rows c.loop.counter (omega (arith, c.rows_in-count.ensures))

pub loop-init : goal.loop-init
loop-init c = record { place = c.first_row-next.ensures ∙ sym (pos-none _ _ _); terms = refl; same_reference = refl; words = first-none _ _ _ _ _ }

pub invariant_of-row : goal.invariant_of-row
unfolding row_end
invariant_of-row c =
    record { near = omega (arith, c.loop.invariant.place, (fits (goal.at.invariant_of-row c).In-loop).whole) }

pub put_row-next-requires : goal.put_row-next-requires
put_row-next-requires c = rw (c.loop.invariant.terms, c.loop.invariant.place) (fits (goal.at.put_row-next-requires c).In-loop)

pub returns-clause-past : goal.returns-clause-past
unfolding section_end
returns-clause-past c =
    let e : c.loop.counter ≡ rows_in c.args.file.now c.args.at = omega (arith, c.rows_in-count.ensures) in
    rw e at c.loop.invariant.place

pub returns-clause-words : goal.returns-clause-words
returns-clause-words c =
    let e : c.loop.counter ≡ rows_in c.args.file.now c.args.at = omega (arith, c.rows_in-count.ensures) in
    (rw e at c.loop.invariant.words) ∙ first-all c.args.self.now.terms c.args.section c.args.file.now c.args.at c.args.self.now.words.now

pub loop-preserved : goal.loop-preserved
loop-preserved c =
    let l = c.loop in
    let r = c.put_row-next in
    record {
      place = r.ensures.past ∙ rw (l.invariant.place, pos-more);
      terms = r.ensures.terms ∙ l.invariant.terms;
      same_reference = r.ensures.same_reference ∙ l.invariant.same_reference;
      words = r.ensures.words
          ∙ rw (l.invariant.terms, l.invariant.place, first_more)
          (ap (row_stored c.args.self.now.terms (row_at c.args.section c.args.file.now (row_pos c.args.section c.args.file.now (c.args.at + 2) l.counter)) intervals) l.invariant.words);
    }
