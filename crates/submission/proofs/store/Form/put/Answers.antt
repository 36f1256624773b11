-- `put` meets its contract: each turn writes one word more.
use Rattle.std.proofs.Common.{rules, ◌≡◌, refl, sym, ◌<◌, arith, length, length-set, to_z, of_z, w64}
use Rattle.integer.proofs.laws.WordsLaws.{filled_zero, filled-suc, filled-whole}
use Rattle.submission.specs.Stored.{word_from}
use Rattle.submission.proofs.store.Form.put.Goals as goal

pub loop-j-init : goal.loop-j-init
loop-j-init c = (refl, sym (filled_zero _ _))

pub loop-j-preserved : goal.loop-j-preserved
loop-j-preserved c =
    let l = c.loop-j in
    let z : to_z w64 (of_z w64 c.word.result) ≡ c.word.result = search rules in
    let h : l.j < length c.args.words.now = omega arith in
    (simp length-set l.invariant.0, rw filled-suc (cc))

pub returns : goal.returns
returns c =
    let l = c.loop-j in
    filled-whole l.j (length c.args.words.now) (word_from c.args.self.now c.args.values.now 0) c.args.words.now refl (omega arith) l.invariant.1
