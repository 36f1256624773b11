-- `slots_fit` meets its contract: each turn is one slot more.
use Rattle.std.proofs.Common.{◌≡◌, ℕ, true, false, ◌&&◌, ◌*◌, ◌/◌, ◌<◌, List, ℤ, length, refl, ap, sym, ◌∙◌, arith}
use Rattle.std.specs.Simd.{first_chunks}
use Rattle.std.proofs.lemmas.List.{length_push}
use Rattle.std.proofs.lemmas.List.FromFn.{length-enumerate_from}
use Rattle.std.proofs.lemmas.Iterator.Consumers.{YieldsList-from_enumerate, YieldsList-at, YieldsList-turn, YieldsList-end}
use Rattle.integer.specs.Below.{all, fold}
use Rattle.integer.specs.Words.{part}
use Rattle.integer.proofs.laws.WordsLaws.{length_part, row_fits_lem}
use Rattle.rulebook.specs.declared.Terms.{Terms}
use Rattle.integer.proofs.laws.BelowLaws.{fold-stop}
use Rattle.rulebook.specs.Layout.{ring}
use Rattle.opening.proofs.laws.LoopLaws.{all_step}
use Rattle.opening.proofs.laws.ChunkLaws.{chunks-given, chunk-turn, chunks-of, length-chunks}
use Rattle.book.specs.Slots.{slot_told}
use Rattle.book.proofs.laws.DayLaws.{slots-told}
use Rattle.book.proofs.slots.slots_fit.Goals as goal
use Rattle.book.proofs.slots.slots_fit.Goals.{After-slot-1, After-slot_fits}

-- this turn's slot, and its number
turn : (c : After-slot-1) → let xs = c.args.slots.now in let n = c.slot_length.result in let k = length c.loop-v.yielded in (k < ring c.args.terms) × (c.in-Some.v ≡ k) × (c.in-Some.slot.now ≡ part xs (k * n) n)
turn c =
    let xs = c.args.slots.now in
    let n = c.slot_length.result in
    let some : 0 < n = omega (arith, c.slot_length.ensures) in
    let e : length xs ≡ ring c.args.terms * n = rw (c.slot_length.ensures, c.get-n.ensures.same) c.requires.1 in
    let road = YieldsList-at c.into_iter-v-iterator.ensures.into_iter_gives (YieldsList-from_enumerate (YieldsList-at c.enumerate-v-items.ensures.source (chunks-given n xs some c.chunks_exact.ensures.rest c.chunks_exact.ensures.size)) c.enumerate-v-items.ensures.count) in
    chunk-turn n (ring c.args.terms) (length c.loop-v.yielded) xs c.in-Some.v c.in-Some.slot.now some e
    (YieldsList-turn road c.loop-v.yielded _ c.loop-v.yielded_by _ _ (c.in-Some.v, c.in-Some.slot) c.in-Some.is c.next.ensures.steps)

pub window_place-place-requires : goal.window_place-place-requires
window_place-place-requires c = let t = turn c in omega arith

-- a slot's length is that of its part
long : (xs : List ℤ) (k n r : ℕ) {x : List ℤ} → x ≡ part xs (k * n) n → length xs ≡ r * n → k < r → length x ≡ n
long xs k n r e f h = ap length e ∙ length_part xs (k * n) n (omega (arith, row_fits_lem k r n h))

pub slot_fits-requires : goal.slot_fits-requires
slot_fits-requires c =
    let t = turn (goal.at.slot_fits-requires c).After-slot-1 in
    let a = c.get-n.ensures.accepted in
    let e : length c.args.slots.now ≡ ring c.args.terms * c.slot_length.result = rw (c.slot_length.ensures, c.get-n.ensures.same) c.requires.1 in
    (long c.args.slots.now (length c.loop-v.yielded) c.slot_length.result (ring c.args.terms) t.2 e t.0 ∙ c.slot_length.ensures, rw c.get-n.ensures.same (omega arith))

-- what `slot_fits` answered
told : (c : After-slot_fits) → c.in-Some.v ≡ length c.loop-v.yielded → c.in-Some.slot.now ≡ part c.args.slots.now (length c.loop-v.yielded * c.slot_length.result) c.slot_length.result
    → c.slot_fits.result ≡ slot_told c.args.terms c.args.closes c.args.slots.now (length c.loop-v.yielded)
unfolding slot_told
told c e f =
    rw (c.slot_fits.ensures, c.day_at.ensures, c.window_place-place.ensures.0, e, f, c.slot_length.ensures, c.get-n.ensures.same)

pub loop-v-init : goal.loop-v-init
unfolding fold
loop-v-init c = (ap (λ (o : Terms). o.accounts) c.get-n.ensures.same, refl)

pub loop-v-preserved : goal.loop-v-preserved
loop-v-preserved c =
    let k = length c.loop-v.yielded in
    let d = goal.at.loop-v-preserved c in
    let t = turn d.After-slot-1 in
    let e = sym (told d.After-slot_fits t.1 t.2) ∙ c.if-not-slot_fits.false in
    (c.loop-v.invariant.0, rw length_push (sym (all_step k _ (sym c.loop-v.invariant.1) (sym e))))

pub returns-then-not-slot_fits : goal.returns-then-not-slot_fits
returns-then-not-slot_fits c =
    let d = goal.at.returns-then-not-slot_fits c in
    let k = length c.loop-v.yielded in
    let t = turn d.After-slot-1 in
    let e = sym (told d.After-slot_fits t.1 t.2) ∙ c.if-not-slot_fits.true in
    let o = c.args.terms in
    sym (sym (slots-told o _ _) ∙ fold-stop ◌&&◌ true false (λ y. refl) (ring o) _ k t.0 (rw (c.loop-v.invariant.1, e)))

pub returns : goal.returns
returns c =
    let xs = c.args.slots.now in
    let n = c.slot_length.result in
    let o = c.args.terms in
    let some : 0 < n = omega (arith, c.slot_length.ensures) in
    let e : length xs ≡ ring o * n = rw (c.slot_length.ensures, c.get-n.ensures.same) c.requires.1 in
    let road = YieldsList-at c.into_iter-v-iterator.ensures.into_iter_gives (YieldsList-from_enumerate (YieldsList-at c.enumerate-v-items.ensures.source (chunks-given n xs some c.chunks_exact.ensures.rest c.chunks_exact.ensures.size)) c.enumerate-v-items.ensures.count) in
    let k = (YieldsList-end road c.loop-v.yielded _ c.loop-v.yielded_by _ _ c.in-None.is c.next.ensures.steps).1
    ∙ length-enumerate_from 0 (first_chunks n (length xs / n) xs) ∙ length-chunks n (length xs / n) xs ∙ chunks-of (ring o) n some e in
    sym c.loop-v.invariant.1 ∙ ap (λ (i : ℕ). all i (slot_told o c.args.closes xs)) k ∙ slots-told o c.args.closes xs
