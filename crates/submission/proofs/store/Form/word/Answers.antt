-- `word` meets its contract: the flag at its place, and about it a value or a zero.
use Rattle.std.proofs.Common.{rules, ◌≡◌, ◌∙◌, to_z, of_z, w64}
use borrow.Author.Tests.{lt-ltb, le-ltb, eq-eqb, ne_eqb}
use Rattle.submission.specs.Stored.{value_number, word_from}
use Rattle.submission.proofs.laws.StoredLaws.{number-there, number-none}
use Rattle.submission.proofs.store.Form.word.Goals as goal
use Rattle.submission.proofs.store.Form.word.Goals.{then-j-self-2, else-j-self-2}

pub returns-then-j-self : goal.returns-then-j-self
unfolding word_from
returns-then-j-self c =
    let z : to_z w64 (of_z w64 c.args.self.now.flag) ≡ c.args.self.now.flag = search rules in
    z ∙ rw (eq-eqb c.args.j c.args.self.now.place c.if-j-self.true)

pub returns-then-k-self : goal.returns-then-k-self
unfolding word_from
returns-then-k-self c =
    let f = c.args.self.now in
    let z : to_z w64 (of_z w64 c.value_at.result) ≡ c.value_at.result = search rules in
    let k : c.if-j-self-2.k ≡ value_number f.place c.args.j
    = elim c.if-j-self-2.branch [ then-j-self-2 w ↦ rw (lt-ltb c.args.j f.place w.if-j-self-2.true) w.k-is | else-j-self-2 w ↦ rw (le-ltb c.args.j f.place w.if-j-self-2.false) w.k-is ] in
    z ∙ c.value_at.ensures.0 ∙ rw (ne_eqb c.args.j f.place c.if-j-self.false, ← k) (number-there f.values c.args.values.now c.if-j-self-2.k c.if-k-self.true)

pub returns-else-k-self : goal.returns-else-k-self
unfolding word_from
returns-else-k-self c =
    let f = c.args.self.now in
    let k : c.if-j-self-2.k ≡ value_number f.place c.args.j
    = elim c.if-j-self-2.branch [ then-j-self-2 w ↦ rw (lt-ltb c.args.j f.place w.if-j-self-2.true) w.k-is | else-j-self-2 w ↦ rw (le-ltb c.args.j f.place w.if-j-self-2.false) w.k-is ] in
    rw (ne_eqb c.args.j f.place c.if-j-self.false, ← k) (number-none f.values c.args.values.now c.if-j-self-2.k c.if-k-self.false)
