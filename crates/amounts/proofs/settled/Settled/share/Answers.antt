-- `share` meets its contract: R and S of the interval are those that were formed, and the sums have room.
use Rattle.rulebook.specs.Layout.{interval_of}
use Rattle.amounts.specs.Interval.{residual_at}
use Rattle.std.proofs.Common.{◌≡◌, ℕ, ℤ, List, ◌+◌, ◌*◌, ◌<◌, ◌≤◌, get_or, sym, ap, ◌∙◌, arith}
use Rattle.rulebook.specs.Units.{most_quantity}
use Rattle.rulebook.specs.Shares.{share_by}
use Rattle.rules.specs.LoadAndSpare.{LoadAndSpare}
use Rattle.amounts.specs.Cell.{cell_data}
use Rattle.amounts.specs.Day.{Then, uegq_in, sum_in, share_in}
use Rattle.amounts.proofs.laws.DayLaws.{residual-in, sum-suc, sum-le, share-le}
use Rattle.amounts.proofs.settled.Settled.share.Goals as goal
use Rattle.amounts.proofs.settled.Settled.share.Goals.{After-uegq-u}

-- the settled day, as its fields have it
abbrev then : After-uegq-u → Then
then c = let s = c.self.inside in record { accounts = s.slot.accounts; words = s.slot.words.now; edition = s.edition }

record Turn (c : After-uegq-u) : Type 0 where
  here : c.args.a < (then c).accounts
  before : c.args.sum.now ≡ sum_in (then c) c.args.a c.args.h
  uegq : c.uegq-u.result ≡ uegq_in (then c).accounts (then c).words c.args.a c.args.h
  room : c.args.sum.now + c.uegq-u.result ≤ 32 * most_quantity

turn : (c : After-uegq-u) → Turn c
turn c =
    let s = c.self.inside in
    let t = then c in
    let n = ap (λ (t : Then). t.accounts) c.self.view_is in
    let h : c.args.a < t.accounts = omega (arith, n, c.requires.0) in
    let e : c.args.sum.now ≡ sum_in t c.args.a c.args.h = c.requires.2 ∙ ap (λ (t : Then). sum_in t c.args.a c.args.h) (sym c.self.view_is) in
    let l : c.args.a ≤ t.accounts = omega arith in
    record {
      here = h;
      before = e;
      uegq = c.uegq-u.ensures.0 ∙ ap (λ (x : List ℤ). (cell_data x).uegq) c.cell.ensures;
      room = omega (arith, e, sum-le t s.slot.ranged c.args.a c.args.h c.requires.1 l, c.uegq-u.ensures.1, s.slot.few, h);
    }

pub overflow_add-sum : goal.overflow_add-sum
overflow_add-sum c = omega (arith, (turn (goal.at.overflow_add-sum c).After-uegq-u).room)

pub share_by-requires : goal.share_by-requires
share_by-requires c = omega (arith, (turn (goal.at.share_by-requires c).After-uegq-u).room)

-- a share of these parts
of_parts : (t : Then) (a h : ℕ) {share before u : ℕ} {r : LoadAndSpare} → share ≡ share_by t.edition r.load r.spare before u → r ≡ residual_at t.accounts (interval_of t.accounts t.words h)
    → before ≡ sum_in t a h → u ≡ uegq_in t.accounts t.words a h → share ≡ share_in t a h
unfolding share_in
of_parts t a h e f g k = rw (e, f, g, k)

pub returns-clause-share : goal.returns-clause-share
returns-clause-share c =
    let s = c.self.inside in
    let g = (goal.at.returns-clause-share c).After-uegq-u in
    let k = turn g in
    let r = ap (λ (rs : List LoadAndSpare). get_or rs c.args.h c.index-residuals-h.result) c.self.invariant ∙ residual-in s.slot.accounts s.slot.words.now c.args.h c.index-residuals-h.result c.requires.1 in
    let e : c.share_by.result ≡ share_in (then g) c.args.a c.args.h = of_parts (then g) c.args.a c.args.h c.share_by.ensures r k.before k.uegq in
    (rw (← c.self.view_is) e, omega (arith, e, share-le (then g) s.slot.ranged c.args.a c.args.h c.requires.1 k.here))

pub returns-clause-sum : goal.returns-clause-sum
returns-clause-sum c =
    let g = (goal.at.returns-clause-sum c).After-uegq-u in
    let k = turn g in
    rw (← c.self.view_is) (omega (arith, k.before, k.uegq, sum-suc (then g) c.args.a c.args.h))
