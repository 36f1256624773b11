-- `sums` meets its contract: each turn takes one facility more, and the sums stay within their bounds.
use Rattle.std.specs.Int.{w64}
use Rattle.std.proofs.Common.{◌≡◌, ℕ, [], ◌+◌, ◌*◌, ◌-◌, ◌≤◌, ◌<◌, length, length-drop, length-take-le, drop, get_or, sym, ap, ◌∙◌, arith, rules, to_z, of_z}
use Rattle.integer.specs.Words.{word}
use Rattle.integer.proofs.laws.ChunkLaws.{chunk-word}
use Rattle.rules.specs.PriceSums.{sums_of, sums-zero, sums-suc, sums-count}
use Rattle.amounts.specs.Cell.{cell_data}
use Rattle.amounts.proofs.cell.Cell.sums.Goals as goal
use Rattle.amounts.proofs.cell.Cell.sums.Goals.{After-as_chunks, In-loop-mep}

-- as many turns as facilities
count : (c : After-as_chunks) → length c.as_chunks.result.0.now ≡ c.facilities.result
count c =
    let x = c.args.self.words.now in
    let r = c.args.self.ranged in
    let d = length-drop 10 x in
    let k : c.facilities.result ≤ 4 = omega (arith, c.facilities.ensures, r.sized.few) in
    let l = length-take-le (10 + 2 * c.facilities.result - 10) (drop 10 x) (omega (arith, r.whole)) in
    omega (arith, c.as_chunks.ensures.front_len, l)

-- the turn's facility is one of four, and its words are the cell's
record Turn (c : In-loop-mep) : Type 0 where
  below : c.loop-mep.mep-index < 4
  mep : word (get_or c.as_chunks.result.0.now c.loop-mep.mep-index []) 0 ≡ (cell_data c.args.self.words.now).mep c.loop-mep.mep-index
  ieq : word (get_or c.as_chunks.result.0.now c.loop-mep.mep-index []) 1 ≡ (cell_data c.args.self.words.now).ieq c.loop-mep.mep-index

turn : (c : In-loop-mep) → length c.as_chunks.result.0.now ≡ c.facilities.result → Turn c
turn c e =
    let x = c.args.self.words.now in
    let f = c.loop-mep.mep-index in
    let g = c.as_chunks.ensures in
    let t = c.loop-mep-test.true in
    let i : 10 + (f * 2 + 0) ≡ 10 + 2 * f = omega arith in
    let j : 10 + (f * 2 + 1) ≡ 11 + 2 * f = omega arith in
    record {
      below = omega (arith, e, t, c.facilities.ensures, c.args.self.ranged.sized.few);
      mep = rw g.front (chunk-word 2 _ 10 _ x f 0 (omega (arith, g.front_len, t)) (omega arith) (omega (arith, e, t)) ∙ ap (word x) i);
      ieq = rw g.front (chunk-word 2 _ 10 _ x f 1 (omega (arith, g.front_len, t)) (omega arith) (omega (arith, e, t)) ∙ ap (word x) j);
    }

pub loop-mep-init : goal.loop-mep-init
loop-mep-init c = c.none-sums.ensures ∙ sums-zero (cell_data c.args.self.words.now).mep (cell_data c.args.self.words.now).ieq

pub with_facility-sums-requires : goal.with_facility-sums-requires
with_facility-sums-requires c =
    let g = goal.at.with_facility-sums-requires c in
    let l = c.loop-mep in
    let d = cell_data c.args.self.words.now in
    let p = c.args.self.ranged.sized in
    let t = turn g.In-loop-mep (count g.After-as_chunks) in
    let v = word (get_or c.as_chunks.result.0.now l.mep-index []) 0 in
    let w = word (get_or c.as_chunks.result.0.now l.mep-index []) 1 in
    let x : to_z w64 (of_z w64 v) ≡ v = search rules in
    let y : to_z w64 (of_z w64 w) ≡ w = search rules in
    (rw (l.invariant, sums-count l.mep-index d.mep d.ieq) t.below, rw (x, t.mep) (p.mep l.mep-index t.below), rw (y, t.ieq) (p.ieq l.mep-index t.below))

pub loop-mep-preserved : goal.loop-mep-preserved
loop-mep-preserved c =
    let g = goal.at.loop-mep-preserved c in
    let l = c.loop-mep in
    let d = cell_data c.args.self.words.now in
    let t = turn g.In-loop-mep (count g.After-as_chunks) in
    let v = word (get_or c.as_chunks.result.0.now l.mep-index []) 0 in
    let w = word (get_or c.as_chunks.result.0.now l.mep-index []) 1 in
    let x : to_z w64 (of_z w64 v) ≡ v = search rules in
    let y : to_z w64 (of_z w64 w) ≡ w = search rules in
    rw (c.with_facility-sums.ensures, x, y, t.mep, t.ieq, l.invariant) (sym (sums-suc l.mep-index d.mep d.ieq))

pub returns : goal.returns
returns c =
    let d = cell_data c.args.self.words.now in
    let l = c.loop-mep in
    let e : l.mep-index ≡ d.facilities = omega (arith, count (goal.at.returns c).After-as_chunks, c.facilities.ensures, c.loop-mep-test.false, l.auto.mep-index-end) in
    l.invariant ∙ ap (λ (n : ℕ). sums_of n d.mep d.ieq) e
