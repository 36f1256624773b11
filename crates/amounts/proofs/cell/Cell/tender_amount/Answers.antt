-- `tender_amount` meets its contract: each turn adds one tender's amount; three are within 6 × 10^13.
use Rattle.std.specs.Int.{w64}
use Rattle.std.proofs.Common.{◌≡◌, [], ◌+◌, ◌*◌, ◌≤◌, ◌<◌, pos, nat_abs, ◌+ℤ◌, length, length-drop, length-take-le, drop, get_or, refl, sym, ap, ◌∙◌, arith, rules, to_z, of_z}
use Rattle.integer.proofs.laws.IntegerLaws.{int}
use Rattle.integer.proofs.Bits.{known, got}
use Rattle.integer.specs.Words.{word}
use Rattle.integer.specs.Below.{fold}
use Rattle.integer.proofs.laws.BelowLaws.{fold-suc}
use Rattle.rulebook.specs.DayAmount.{tender_amount}
use Rattle.rulebook.proofs.laws.SizeLaws.{tender-size, tenders-size}
use Rattle.integer.proofs.laws.ChunkLaws.{chunk-word}
use Rattle.amounts.specs.Cell.{cell_data}
use Rattle.amounts.proofs.cell.Cell.tender_amount.Goals as goal
use Rattle.amounts.proofs.cell.Cell.tender_amount.Goals.{After-as_chunks, In-loop-quantity, After-priced}
use Rattle.amounts.proofs.cell.Cell.tender_amount.Invariants.{one}

-- three turns
count : (c : After-as_chunks) → length c.as_chunks.result.0.now ≡ 3
count c =
    let x = c.args.self.words.now in
    let d = length-drop 3 x in
    let l = length-take-le 6 (drop 3 x) (omega (arith, c.args.self.ranged.whole)) in
    omega (arith, c.as_chunks.ensures.front_len, l)

-- the turn's words are the cell's
record Turn (c : In-loop-quantity) : Type 0 where
  below : c.loop-quantity.quantity-index < 3
  quantity : word (get_or c.as_chunks.result.0.now c.loop-quantity.quantity-index []) 0 ≡ word c.args.self.words.now (3 + 2 * c.loop-quantity.quantity-index)
  price : word (get_or c.as_chunks.result.0.now c.loop-quantity.quantity-index []) 1 ≡ word c.args.self.words.now (4 + 2 * c.loop-quantity.quantity-index)

turn : (c : In-loop-quantity) → length c.as_chunks.result.0.now ≡ 3 → Turn c
turn c e =
    let x = c.args.self.words.now in
    let t = c.loop-quantity.quantity-index in
    let g = c.as_chunks.ensures in
    let h = c.loop-quantity-test.true in
    let i : 3 + (t * 2 + 0) ≡ 3 + 2 * t = omega arith in
    let j : 3 + (t * 2 + 1) ≡ 4 + 2 * t = omega arith in
    record {
      below = omega (arith, e, h);
      quantity = rw g.front (chunk-word 2 _ 3 6 x t 0 (omega (arith, g.front_len, h)) (omega arith) (omega (arith, e, h)) ∙ ap (word x) i);
      price = rw g.front (chunk-word 2 _ 3 6 x t 1 (omega (arith, g.front_len, h)) (omega arith) (omega (arith, e, h)) ∙ ap (word x) j);
    }

pub loop-quantity-init : goal.loop-quantity-init
unfolding fold
loop-quantity-init c = (omega arith, refl)

pub as_quantity-requires : goal.as_quantity-requires
as_quantity-requires c =
    let g = goal.at.as_quantity-requires c in
    let t = turn g.In-loop-quantity (count g.After-as_chunks) in
    let w = word (get_or c.as_chunks.result.0.now c.loop-quantity.quantity-index []) 0 in
    let x : to_z w64 (of_z w64 w) ≡ w = search rules in
    rw (x, t.quantity) (c.args.self.ranged.tvq c.loop-quantity.quantity-index t.below)

pub priced-requires : goal.priced-requires
priced-requires c =
    let g = goal.at.priced-requires c in
    let t = turn g.In-loop-quantity (count g.After-as_chunks) in
    let w = word (get_or c.as_chunks.result.0.now c.loop-quantity.quantity-index []) 1 in
    let x : to_z w64 (of_z w64 w) ≡ w = search rules in
    (rw (x, t.price) (c.args.self.ranged.sized.tvp c.loop-quantity.quantity-index t.below), omega (int, known c.ranges.v, c.requires), c.as_quantity.ensures.1)

-- the amount of a turn, read back
amount : (c : After-priced) → word (get_or c.as_chunks.result.0.now c.loop-quantity.quantity-index []) 0 ≡ word c.args.self.words.now (3 + 2 * c.loop-quantity.quantity-index)
    → word (get_or c.as_chunks.result.0.now c.loop-quantity.quantity-index []) 1 ≡ word c.args.self.words.now (4 + 2 * c.loop-quantity.quantity-index)
    → to_z w64 (of_z w64 c.priced.result) ≡ one c.args.self.words.now (to_z w64 (of_z w64 c.args.v)) c.loop-quantity.quantity-index
amount c q p =
    let r = c.priced in
    let v = word (get_or c.as_chunks.result.0.now c.loop-quantity.quantity-index []) 0 in
    let w = word (get_or c.as_chunks.result.0.now c.loop-quantity.quantity-index []) 1 in
    let x : to_z w64 (of_z w64 v) ≡ v = search rules in
    let y : to_z w64 (of_z w64 w) ≡ w = search rules in
    rw (got r.result r.type_inv, r.ensures, c.as_quantity.ensures.0, x, y, q, p)

pub add-total-requires : goal.add-total-requires
add-total-requires c =
    let g = goal.at.add-total-requires c in
    let t = turn g.In-loop-quantity (count g.After-as_chunks) in
    let l = c.loop-quantity in
    let d = cell_data c.args.self.words.now in
    let v = to_z w64 (of_z w64 c.args.v) in
    let small = c.requires in
    let k = known c.ranges.v in
    let h : nat_abs v ≤ 1000000 = omega int in
    let x = c.args.self.ranged.sized in
    rw (amount g.After-priced t.quantity t.price, l.invariant.1)
    (omega (arith, tenders-size d x v h l.quantity-index l.invariant.0, tender-size d x v h l.quantity-index t.below))

pub loop-quantity-preserved : goal.loop-quantity-preserved
loop-quantity-preserved c =
    let g = goal.at.loop-quantity-preserved c in
    let t = turn g.In-loop-quantity (count g.After-as_chunks) in
    let l = c.loop-quantity in
    let f = one c.args.self.words.now (to_z w64 (of_z w64 c.args.v)) in
    (omega (arith, t.below), got c.add-total.result c.add-total.type_inv ∙ c.add-total.ensures ∙ rw (amount g.After-priced t.quantity t.price, l.invariant.1) (sym (fold-suc ◌+ℤ◌ (pos 0) l.quantity-index f)))

pub returns : goal.returns
unfolding tender_amount
returns c =
    let l = c.loop-quantity in
    let e : l.quantity-index ≡ 3 = omega (arith, count (goal.at.returns c).After-as_chunks, c.loop-quantity-test.false, l.auto.quantity-index-end) in
    let x : to_z w64 (of_z w64 c.args.v) ≡ c.args.v = search rules in
    rw (l.invariant.1, e, x)
