-- `digest_of` meets its contract: one turn a word, and the digest stays below the prime.
use Rattle.std.proofs.Common.{rules, refl, sym, ap, ◌∙◌, SFits, w64, arith}
use Rattle.std.proofs.lemmas.Int.{to_z-of_z}
use Rattle.integer.specs.Words.{word}
use Rattle.integer.specs.Below.{turns}
use Rattle.integer.proofs.laws.BelowLaws.{turns-suc}
use Rattle.replay.specs.Digests.{more_word, digest}
use Rattle.replay.proofs.output.digest_of.Goals as goal
use Rattle.replay.proofs.output.digest_of.Invariants.{step}

pub loop-z-init : goal.loop-z-init
unfolding turns
loop-z-init c = (omega arith, refl)

pub loop-z-preserved : goal.loop-z-preserved
loop-z-preserved c =
    let l = c.loop-z in
    let xs = c.args.list.now in
    let f : SFits w64 (word xs l.z-index) = search rules in
    let e = rw (to_z-of_z w64 (word xs l.z-index) f) at c.more_word-d.ensures.0 in
    (c.more_word-d.ensures.1, e ∙ ap (λ d. more_word d (word xs l.z-index)) l.invariant.1 ∙ sym (turns-suc l.z-index (step xs) 1))

pub returns : goal.returns
unfolding digest
returns c = let l = c.loop-z in l.invariant.1 ∙ ap (λ n. turns n (step c.args.list.now) 1) (omega arith)
