-- `words_in` meets its contract: a word a turn, the words from the turn's on kept.
use Rattle.std.proofs.Common.{refl, sym, ap, ◌∙◌, arith, length, length-set, ◌≡◌, ℕ, List, [], take, drop, ◌*◌, ◌/◌, get_or}
use Rattle.integer.proofs.Bits.{got}
use Rattle.integer.proofs.laws.ChunkLaws.{chunk-at}
use Rattle.integer.proofs.laws.WordsLaws.{filled_zero, filled-step, filled-whole}
use Rattle.replay.specs.Fields.{words_in, word_in}
use Rattle.replay.proofs.laws.FieldLaws.{word-cut}
use Rattle.replay.proofs.input.words_in.Goals as goal
use Rattle.replay.proofs.input.words_in.Invariants.{spelled}

pub loop-i-init : goal.loop-i-init
loop-i-init c = (refl, sym (filled_zero (spelled _) _))

pub loop-i-preserved : goal.loop-i-preserved
loop-i-preserved c =
    let l = c.loop-i in
    let g = c.args in
    let b = g.bytes.now in
    let e : l.i * 8 ≡ 8 * l.i = omega arith in
    let chunk : get_or c.as_chunks.result.0.now l.i [] ≡ take 8 (drop (8 * l.i) b) = rw c.as_chunks.ensures.front (chunk-at 8 (length b / 8) l.i b [] (omega arith) ∙ ap (λ (k : ℕ). take 8 (drop k b)) e) in
    let read : c.word_of.result ≡ word_in b (8 * l.i) = c.word_of.ensures ∙ ap (λ (x : List ℕ). word_in x 0) chunk ∙ word-cut b (8 * l.i) in
    let f = filled-step l.i (spelled b) g.list.now (omega arith) l.invariant.1 (got c.word_of.result c.word_of.type_inv ∙ read) in
    (rw (length-set) l.invariant.0, f)

pub returns : goal.returns
unfolding words_in
returns c =
    let l = c.loop-i in
    let g = c.args in
    filled-whole l.i (length g.list.now) (spelled g.bytes.now) g.list.now refl (omega arith) l.invariant.1
