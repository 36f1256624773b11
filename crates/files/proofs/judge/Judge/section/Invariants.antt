use Rattle.std.proofs.Common.{◌≡◌}
use Rattle.files.specs.Marks.{Before}
use Rattle.files.proofs.judge.Judge.section.Given as goal

abbrev pub invariant-loop : goal.invariant-loop
invariant-loop l = record {
  limits : l.self.limits ≡ l.initial.self.limits;
  file : l.self.reader.file ≡ l.initial.self.reader.file;
  before : Before l.initial.self.limits l.section l.initial.self.reader.file.now l.initial.self.reader.at l.counter l.self.reader.at l.self.marks.now;
}
