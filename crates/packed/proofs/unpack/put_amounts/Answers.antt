-- `put_amounts` meets its contract: each turn fills one word more.
use Rattle.std.proofs.Common.{◌≡◌, sym, ◌∙◌, ◌*◌, ◌/◌, ◌<◌, [], length, take, get_or, arith}
use lib.Seq.{length-take-le}
use Rattle.integer.proofs.Bits.{got}
use Rattle.integer.proofs.laws.WordsLaws.{filled_zero, filled-step}
use Rattle.packed.specs.Packed.{field_bytes, amount_at}
use Rattle.packed.proofs.laws.PairLaws.{amount-same, chunk-same}
use Rattle.packed.proofs.unpack.put_amounts.Goals as goal

pub loop-f-init : goal.loop-f-init
loop-f-init c = sym (filled_zero _ _)

pub loop-f-preserved : goal.loop-f-preserved
loop-f-preserved c =
    let s = c.args.s.now in
    let f = c.loop-f.f in
    let v = c.amount in
    let n = length c.as_chunks.result.0.now in
    let b = c.as_chunks.ensures.front_len in
    let t : f < length (take n c.args.output.now) = c.loop-f-test.true in
    let m : length (take n c.args.output.now) ≡ n = length-take-le n c.args.output.now (omega (arith, b, c.requires)) in
    let l : f < length s / field_bytes = omega (arith, b, t, m) in
    let a = amount-same s (field_bytes * f) (get_or c.as_chunks.result.0.now f []) (λ j b. rw c.as_chunks.ensures.front (chunk-same s f [] l j b)) in
    filled-step f (λ k. amount_at s (field_bytes * k)) _ t c.loop-f.invariant (got v.result v.type_inv ∙ v.ensures ∙ sym a)
