-- `first_wrong` meets its contract. The invariant: every field below f is right.
use Rattle.std.specs.Prelude.{Some}
use Rattle.std.proofs.Common.{◌≡◌, sym, ap, ◌∙◌, ◌+◌, ◌*◌, ◌%◌, ◌<◌, length, get_or, [], ℕ, eqb-true, rules, arith}
use Rattle.std.proofs.lemmas.Bool.{eqb-false}
use borrow.Author.Tests.{ne_eqb}
use Rattle.integer.specs.Below.{fold, or_else}
use Rattle.integer.proofs.laws.BelowLaws.{first_more, first_stops}
use Rattle.packed.specs.Packed.{field_bytes, whole_fields, wrong_in, cut_field, first_wrong}
use Rattle.packed.specs.Pairs.{is_nothing}
use Rattle.packed.proofs.laws.PairLaws.{nothing-of, wrong-there, right_same, wrong_byte-same, chunk-same}
use Rattle.packed.proofs.unpack.first_wrong.Goals as goal
use Rattle.packed.proofs.unpack.first_wrong.Goals.{After-is_field}

pub loop-f-init : goal.loop-f-init
unfolding fold
loop-f-init c = search rules

-- the field as it stands in the bytes
same : (c : After-is_field) → (j : ℕ) → j < field_bytes → get_or c.args.s.now (field_bytes * c.loop-f.f + j) 0 ≡ get_or (get_or c.as_chunks.result.0.now c.loop-f.f []) (0 + j) 0
same c j b = rw c.as_chunks.ensures.front (chunk-same c.args.s.now c.loop-f.f [] (omega (arith, c.as_chunks.ensures.front_len)) j b)

judged : (c : After-is_field) → c.is_field.result ≡ is_nothing (wrong_in c.args.s.now (field_bytes * c.loop-f.f))
judged c = c.is_field.ensures ∙ sym (right_same c.args.s.now (field_bytes * c.loop-f.f) _ (same c))

pub returns-then-not-is_field : goal.returns-then-not-is_field
unfolding first_wrong or_else
returns-then-not-is_field c =
    let g = (goal.at.returns-then-not-is_field c).After-is_field in
    let s = c.args.s.now in
    let at : ℕ = field_bytes * c.loop-f.f in
    let w : wrong_in s (field_bytes * c.loop-f.f) ≡ Some (8 * c.loop-f.f + c.wrong_byte.result) =
    wrong-there s (field_bytes * c.loop-f.f) (sym (judged g) ∙ c.if-not-is_field.true) ∙ ap Some (wrong_byte-same s (field_bytes * c.loop-f.f) _ (same g) ∙ ap (λ (i : ℕ). 8 * c.loop-f.f + i) (sym c.wrong_byte.ensures.0)) in
    sym (ap (λ o. or_else o (cut_field s)) (first_stops (whole_fields s) (λ k. wrong_in s (field_bytes * k)) c.loop-f.f _ (omega (arith, c.as_chunks.ensures.front_len)) c.loop-f.invariant w))

pub loop-f-preserved : goal.loop-f-preserved
loop-f-preserved c =
    let g = (goal.at.loop-f-preserved c).After-is_field in
    let s = c.args.s.now in
    first_more c.loop-f.f (λ k. wrong_in s (field_bytes * k)) c.loop-f.invariant (nothing-of (wrong_in s (field_bytes * c.loop-f.f)) (sym (judged g) ∙ c.if-not-is_field.false))

pub returns-then-is_empty : goal.returns-then-is_empty
unfolding first_wrong cut_field or_else
returns-then-is_empty c =
    let s = c.args.s.now in
    let e : c.loop-f.f ≡ whole_fields s = omega (arith, c.as_chunks.ensures.front_len) in
    let z : length s % 8 ≡ 0 = omega (arith, eqb-true (length c.as_chunks.result.1.now) 0 (sym c.if-is_empty.ensures), c.as_chunks.ensures.back_len) in
    rw (rw e at c.loop-f.invariant, z)

pub returns-else-is_empty : goal.returns-else-is_empty
unfolding first_wrong cut_field or_else
returns-else-is_empty c =
    let s = c.args.s.now in
    let e : c.loop-f.f ≡ whole_fields s = omega (arith, c.as_chunks.ensures.front_len) in
    let n = eqb-false (length c.as_chunks.result.1.now) 0 (sym c.if-is_empty.ensures) in
    rw (rw e at c.loop-f.invariant, ne_eqb (length s % 8) 0 (λ q. n (omega (arith, c.as_chunks.ensures.back_len))), c.as_chunks.ensures.front_len)
