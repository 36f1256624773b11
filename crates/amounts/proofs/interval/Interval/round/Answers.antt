-- `round` meets its contract: each turn takes one account's quantity more, and 32 of them leave room.
use Rattle.std.specs.Int.{w64}
use Rattle.std.proofs.Common.{◌≡◌, ℕ, [], ◌+◌, ◌<◌, length, get_or, ap, ◌∙◌, arith, rules, length-drop, length-take-le, drop, ◌-◌, to_z, of_z}
use Rattle.integer.specs.Below.{fold}
use Rattle.integer.proofs.laws.BelowLaws.{fold-suc}
use Rattle.integer.specs.Words.{word}
use Rattle.rulebook.specs.Units.{as_quantity}
use Rattle.rulebook.specs.Layout.{cell_of}
use Rattle.amounts.specs.Interval.{quantities_at}
use Rattle.amounts.proofs.laws.IntervalLaws.{chunk-word}
use Rattle.amounts.proofs.interval.Interval.round.Goals as goal
use Rattle.amounts.proofs.interval.Interval.round.Goals.{After-as_chunks, In-loop-cell}

-- as many turns as accounts
count : (c : After-as_chunks) → length c.as_chunks.result.0.now ≡ c.args.self.accounts
count c =
    let x = c.args.self.words.now in
    let e = c.args.self.ranged.whole in
    let d = length-drop 4 x in
    let l = length-take-le (length x - 4) (drop 4 x) (omega arith) in
    omega (arith, c.as_chunks.ensures.front_len, l)

-- the turn's word is the account's
read : (c : In-loop-cell) → c.loop-cell.cell-index < c.args.self.accounts
    → word (get_or c.as_chunks.result.0.now c.loop-cell.cell-index []) c.args.at ≡ word (cell_of c.args.self.words.now c.loop-cell.cell-index) c.args.at
read c h =
    let s = c.args.self in
    let b = c.loop-cell.cell-index in
    let f = c.as_chunks.ensures in
    rw f.front (chunk-word s.accounts _ s.words.now b c.args.at s.ranged.whole h (omega (arith, f.front_len, c.loop-cell-test.true)) c.requires.0.within)

pub loop-cell-init : goal.loop-cell-init
unfolding fold
loop-cell-init c = (omega arith, omega arith)

pub as_quantity-figure-requires : goal.as_quantity-figure-requires
as_quantity-figure-requires c =
    let g = goal.at.as_quantity-figure-requires c in
    let w = word (get_or c.as_chunks.result.0.now c.loop-cell.cell-index []) c.args.at in
    let x : to_z w64 (of_z w64 w) ≡ w = search rules in
    let h : c.loop-cell.cell-index < c.args.self.accounts = omega (arith, count g.After-as_chunks, c.loop-cell-test.true) in
    rw (x, read g.In-loop-cell h) (c.requires.0.ranged c.loop-cell.cell-index h)

pub loop-cell-preserved : goal.loop-cell-preserved
loop-cell-preserved c =
    let g = goal.at.loop-cell-preserved c in
    let l = c.loop-cell in
    let s = c.args.self in
    let w = word (get_or c.as_chunks.result.0.now l.cell-index []) c.args.at in
    let x : to_z w64 (of_z w64 w) ≡ w = search rules in
    let h : l.cell-index < s.accounts = omega (arith, count g.After-as_chunks, c.loop-cell-test.true) in
    let q : c.as_quantity-figure.result ≡ as_quantity (word (cell_of s.words.now l.cell-index) c.args.at) = c.as_quantity-figure.ensures.0 ∙ ap as_quantity (x ∙ read g.In-loop-cell h) in
    let f = fold-suc ◌+◌ 0 l.cell-index (λ b. as_quantity (word (cell_of s.words.now b) c.args.at)) in
    (omega (arith, l.invariant.0, q, f), omega (arith, l.invariant.1, c.as_quantity-figure.ensures.1))

pub returns : goal.returns
returns c =
    let e : c.loop-cell.cell-index ≡ c.args.self.accounts = omega (arith, count (goal.at.returns c).After-as_chunks, c.loop-cell-test.false, c.loop-cell.auto.cell-index-end) in
    c.loop-cell.invariant.0 ∙ ap (λ (n : ℕ). c.args.before + quantities_at n c.args.self.words.now c.args.at) e
