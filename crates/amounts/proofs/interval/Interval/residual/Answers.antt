-- `residual` meets its contract: the load word is the load, and the hedges of 32 accounts are small.
use Rattle.std.specs.Int.{w64}
use Rattle.std.proofs.Common.{◌≡◌, pos, nat_abs, ap, ◌∙◌, arith, rules, to_z, of_z}
use Rattle.integer.proofs.Bits.{got}
use Rattle.integer.specs.Words.{word}
use Rattle.rulebook.specs.DayAmount.{residual_load}
use Rattle.rulebook.proofs.laws.SizeLaws.{hedge_size}
use Rattle.amounts.specs.Interval.{load_in, data_in}
use Rattle.amounts.proofs.laws.IntervalLaws.{data_sized, load-le, load_is, residual-le}
use Rattle.amounts.proofs.interval.Interval.residual.Goals as goal
use Rattle.amounts.proofs.interval.Interval.residual.Goals.{After-hedge_total, After-less_vested-load}

-- the load word, read back
load : (c : After-hedge_total) → to_z w64 (of_z w64 (word c.args.self.words.now 0)) ≡ pos (load_in c.args.self.words.now)
load c =
    let s = c.args.self in
    let w = word s.words.now 0 in
    let x : to_z w64 (of_z w64 w) ≡ w = search rules in
    x ∙ load_is s.accounts s.words.now s.ranged

pub less_vested-load-requires : goal.less_vested-load-requires
less_vested-load-requires c =
    let s = c.args.self in (
      omega (arith, ap nat_abs (load (goal.at.less_vested-load-requires c).After-hedge_total), load-le s.accounts s.words.now s.ranged),
      omega (arith, c.hedge_total.ensures, s.few, hedge_size s.accounts (data_in s.words.now) (data_sized s.accounts s.words.now s.ranged)),
    )

-- R, read back
residual : (c : After-less_vested-load) → to_z w64 (of_z w64 (word c.args.self.words.now 0)) ≡ pos (load_in c.args.self.words.now)
    → to_z w64 (of_z w64 c.less_vested-load.result) ≡ residual_load (load_in c.args.self.words.now) c.args.self.accounts (data_in c.args.self.words.now)
unfolding residual_load
residual c e = let r = c.less_vested-load in rw (got r.result r.type_inv, r.ensures, e, c.hedge_total.ensures)

pub new-requires : goal.new-requires
new-requires c =
    let g = goal.at.new-requires c in
    let s = c.args.self in
    rw (residual g.After-less_vested-load (load g.After-hedge_total)) (residual-le s.accounts s.words.now s.ranged s.few)

pub returns : goal.returns
returns c =
    let g = goal.at.returns c in
    rw (c.new.ensures, residual g.After-less_vested-load (load g.After-hedge_total), c.spare.ensures)
