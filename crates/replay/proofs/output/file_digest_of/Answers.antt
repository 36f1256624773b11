-- `file_digest_of` meets its contract: one turn a byte, and the digest stays below the prime.
use Rattle.std.specs.Prelude.{get_or}
use Rattle.std.proofs.Common.{refl, sym, ap, ◌∙◌, arith}
use Rattle.integer.specs.Below.{turns}
use Rattle.integer.proofs.laws.BelowLaws.{turns-suc}
use Rattle.replay.specs.Digests.{more, file_digest}
use Rattle.replay.proofs.output.file_digest_of.Goals as goal
use Rattle.replay.proofs.output.file_digest_of.Invariants.{step}

pub loop-b-init : goal.loop-b-init
unfolding turns
loop-b-init c = (omega arith, refl)

pub loop-b-preserved : goal.loop-b-preserved
loop-b-preserved c =
    let l = c.loop-b in
    let s = c.args.file.now in
    (c.more-d.ensures.1, (rw c.from.ensures at c.more-d.ensures.0) ∙ ap (λ d. more d (get_or s l.b-index 0)) l.invariant.1 ∙ sym (turns-suc l.b-index (step s) 1))

pub returns : goal.returns
unfolding file_digest
returns c = let l = c.loop-b in l.invariant.1 ∙ ap (λ n. turns n (step c.args.file.now) 1) (omega arith)
