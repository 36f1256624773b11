-- `pairs_value` meets its contract. The invariant: n is what the pairs below the index spell.
use Rattle.std.proofs.Common.{◌≡◌, refl, sym, ap, ◌∙◌, ℕ, suc, ◌+◌, ◌*◌, ◌^◌, ◌≤◌, get_or, arith}
use native.Mathlib.Nat.{pow-succ'}
use Rattle.integer.specs.Below.{turns}
use Rattle.integer.proofs.laws.BelowLaws.{turns-suc}
use Rattle.packed.specs.Pairs.{pairs, with_pair, pairs_value}
use Rattle.packed.proofs.laws.PairLaws.{pair-read, length-pairs}
use Rattle.packed.proofs.unpack.pairs_value.Goals as goal

pub loop-b-init : goal.loop-b-init
unfolding turns
loop-b-init c = (omega arith, refl, omega arith)

pub loop-b-preserved : goal.loop-b-preserved
loop-b-preserved c =
    let s = c.args.field.now in
    let j = c.loop-b.b-index in
    let l = length-pairs s c.told-field in
    let w = c.with_pair-n.ensures in
    let next : j + 1 ≡ suc j = omega arith in (
      omega arith,
      w.0 ∙ ap (λ (b : ℕ). with_pair c.loop-b.n b) (pair-read s j (omega arith)) ∙ ap (λ (m : ℕ). with_pair m (get_or s (0 + j) 0)) c.loop-b.invariant.1 ∙ sym (turns-suc j (λ k m. with_pair m (get_or s (0 + k) 0)) 0),
      rw next (omega (arith, w.1, c.loop-b.invariant.2, pow-succ' 100 j)),
    )

pub returns : goal.returns
unfolding pairs_value
returns c =
    let s = c.args.field.now in
    let l = length-pairs s c.told-field in
    let e : c.loop-b.b-index ≡ pairs = omega arith in
    let b : c.loop-b.n + 2 ≤ 2 * 100 ^ pairs = rw e at c.loop-b.invariant.2 in
    (c.loop-b.invariant.1 ∙ ap (λ (n : ℕ). turns n (λ k m. with_pair m (get_or s (0 + k) 0)) 0) e, omega arith)
