-- `post_amounts` meets its contract: each turn fills one word more, and adds at most 500 thousandths, so 32 of them are at most 16,000.
use Rattle.std.specs.Int.{w64}
use Rattle.std.proofs.Common.{◌≡◌, ◌+ℤ◌, take, pos, SFits, to_z, of_z, rules, refl, sym, ap, ◌∙◌, length-take-le, arith}
use Rattle.std.proofs.lemmas.Int.{to_z-of_z}
use Rattle.integer.proofs.laws.IntegerLaws.{int, abs-add, fits-abs}
use Rattle.integer.specs.Below.{tabulate, fold}
use Rattle.integer.proofs.Bits.{fits-add}
use Rattle.integer.proofs.laws.BelowLaws.{fold-suc}
use Rattle.integer.proofs.laws.WordsLaws.{filled_zero, filled-step}
use Rattle.rulebook.specs.Units.{intervals}
use Rattle.rulebook.proofs.laws.ListLaws.{tabulate-cong}
use Rattle.amounts.specs.declared.total.Posted.{Posted}
use Rattle.amounts.specs.Day.{sum_before, sums_before, slot_cents, slot_difference}
use Rattle.amounts.proofs.laws.DayLaws.{sum_none}
use Rattle.closing.proofs.statement.post_amounts.Goals as goal
use Rattle.closing.proofs.statement.post_amounts.Goals.{After-posted_amount-posted}

pub loop-a-init : goal.loop-a-init
unfolding sums_before tabulate fold
loop-a-init c = record {
  sums = tabulate-cong intervals (λ i. 0) (sum_before c.args.then.now 0) (λ i h. sym (sum_none c.args.then.now i));
  difference = refl;
  small = omega arith;
  items = sym (filled_zero (slot_cents c.args.today.accounts c.args.today.words.now c.args.then.now) (take c.args.today.accounts c.args.statement.now));
}

-- a turn's difference, read back
left : (c : After-posted_amount-posted) → to_z w64 (of_z w64 c.posted_amount-posted.result.difference) ≡ c.posted_amount-posted.result.difference
left c = to_z-of_z w64 _ (fits-abs (omega (int, c.posted_amount-posted.ensures.small)))

more-fits : (c : After-posted_amount-posted) → SFits w64 (to_z w64 c.loop-a.difference-bits +ℤ c.posted_amount-posted.result.difference)
more-fits c =
    let t = c.loop-a-test.true in
    fits-add (to_z w64 c.loop-a.difference-bits) c.posted_amount-posted.result.difference
    (omega (arith, c.loop-a.invariant.small, c.posted_amount-posted.ensures.small, length-take-le c.args.today.accounts c.args.statement.now c.requires.1, t, c.args.today.few))

pub overflow_add-difference : goal.overflow_add-difference
overflow_add-difference c =
    let g = (goal.at.overflow_add-difference c).After-posted_amount-posted in
    rw (left g) (more-fits g)

pub loop-a-preserved : goal.loop-a-preserved
loop-a-preserved c =
    let l = c.loop-a in
    let a = c.args in
    let p = c.posted_amount-posted in
    let g = (goal.at.loop-a-preserved c).After-posted_amount-posted in
    let f : SFits w64 p.result.cents = search rules in
    record {
      sums = p.ensures.sums;
      difference = rw (left g, to_z-of_z w64 _ (more-fits g), l.invariant.difference, p.ensures.amount) (sym (fold-suc ◌+ℤ◌ (pos 0) l.a (slot_difference a.today.accounts a.today.words.now a.then.now)));
      small = rw (left g, to_z-of_z w64 _ (more-fits g)) (omega (arith, abs-add (to_z w64 l.difference-bits) p.result.difference, l.invariant.small, p.ensures.small));
      items = filled-step l.a (slot_cents a.today.accounts a.today.words.now a.then.now) _ c.loop-a-test.true l.invariant.items (to_z-of_z w64 _ f ∙ ap (λ (x : Posted). x.cents) p.ensures.amount);
    }
