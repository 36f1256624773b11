use Rattle.std.proofs.Common.{◌≡◌, ◌+◌}
use Rattle.rulebook.specs.File.{row_pos}
use Rattle.submission.specs.Stored.{first_stored}
use Rattle.submission.proofs.store.Store.put_section.Given as goal

abbrev pub invariant-loop : goal.invariant-loop
invariant-loop l = record {
  place : l.next ≡ row_pos l.section l.file (l.at + 2) l.counter;
  terms : l.self.terms ≡ l.initial.self.terms;
  same_reference : l.self.words.ghost_name ≡ l.initial.self.words.ghost_name;
  words : l.self.words.now ≡ first_stored l.initial.self.terms l.section l.file (l.at + 2) l.counter l.initial.self.words.now;
}
