-- `field` meets its contract: what was taken is judged by the definition's two tests.
use Rattle.std.proofs.Common.{ℕ, Result, ap, ◌∙◌}
use Rattle.rulebook.specs.declared.Refusal.{Refusal}
use Rattle.files.specs.Outcome.{field_outcome}
use Rattle.files.proofs.laws.FieldsLaws.{field-judged}
use Rattle.files.proofs.reader.Reader.field.Goals as goal

pub returns-clause-answer : goal.returns-clause-answer
returns-clause-answer c =
    let g = c.args in
    c.judge_field.ensures ∙ ap (λ (x : Result ℕ Refusal). field_outcome x g.self.now.at g.low g.high g.why) c.take.ensures.answer ∙ field-judged g.n g.low g.high g.why g.self.now.file.now g.self.now.at
