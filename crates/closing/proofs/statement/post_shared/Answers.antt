-- `post_shared` meets its contract: each turn fills one word more, of shares after the accounts before it, and adds at most 500 thousandths.
use Rattle.std.specs.Int.{w64}
use Rattle.std.proofs.Common.{◌≡◌, ◌+ℤ◌, List, ℕ, take, pos, ℤ, nat_abs, SFits, to_z, of_z, rules, refl, sym, ap, ◌∙◌, arith}
use Rattle.std.proofs.lemmas.Int.{to_z-of_z}
use Rattle.std.proofs.lemmas.List.{get_or-replicate}
use Rattle.integer.proofs.laws.IntegerLaws.{int, abs-add, fits-abs}
use Rattle.integer.specs.Below.{fold}
use Rattle.integer.proofs.Bits.{got}
use Rattle.integer.proofs.laws.BelowLaws.{fold-suc}
use Rattle.integer.proofs.laws.WordsLaws.{filled_zero, filled-step}
use Rattle.rulebook.specs.Units.{intervals}
use Rattle.amounts.specs.declared.total.Posted.{Posted}
use Rattle.amounts.specs.Shares.{sums_if, shares_if, shares_posted, then_by, posted_by, cents_by, difference_by}
use Rattle.amounts.proofs.laws.DayLaws.{sums_none}
use Rattle.amounts.proofs.laws.SharesLaws.{sums-settled}
use Rattle.closing.proofs.statement.post_shared.Goals as goal
use Rattle.closing.proofs.statement.post_shared.Goals.{After-posted_of_shares-posted, After-add-difference}

pub loop-a-init : goal.loop-a-init
unfolding fold
loop-a-init c =
    let a = c.args in
    record {
      sums = sums_none (then_by a.edition a.then.now);
      ranged = λ i h. omega (arith, get_or-replicate {A = ℕ} intervals i 0 0 h);
      difference = refl;
      small = omega arith;
      items = sym (filled_zero (cents_by a.edition a.today.accounts a.today.words.now a.then.now a.residuals.now) (take a.today.accounts a.statement.now));
    }

-- what the turn posts
posted : (c : After-posted_of_shares-posted) → c.posted_of_shares-posted.result ≡ posted_by c.args.edition c.args.today.accounts c.args.today.words.now c.args.then.now c.args.residuals.now c.loop-a.a
unfolding posted_by
posted c =
    let a = c.args in
    let l = c.loop-a in
    c.posted_of_shares-posted.ensures.amount
    ∙ ap (λ (x : List ℕ). shares_posted a.today.accounts a.today.words.now a.then.now x l.a)
    (c.shares_due-shares.ensures.shares ∙ ap (λ (x : List ℕ). shares_if a.then.now a.edition a.residuals.now x l.a) l.invariant.sums)

-- the difference with the turn's, read back
left : (c : After-add-difference) → to_z w64 (of_z w64 c.posted_of_shares-posted.result.difference) ≡ c.posted_of_shares-posted.result.difference
left c = to_z-of_z w64 _ (fits-abs (omega (int, c.posted_of_shares-posted.ensures.small)))

more : (c : After-add-difference) → to_z w64 (of_z w64 c.add-difference.result) ≡ to_z w64 c.loop-a.difference-bits +ℤ c.posted_of_shares-posted.result.difference
more c = got c.add-difference.result c.add-difference.type_inv ∙ c.add-difference.ensures ∙ ap (λ (z : ℤ). to_z w64 c.loop-a.difference-bits +ℤ z) (left c)

pub loop-a-preserved : goal.loop-a-preserved
loop-a-preserved c =
    let l = c.loop-a in
    let a = c.args in
    let p = c.posted_of_shares-posted in
    let g = goal.at.loop-a-preserved c in
    let e = posted g.After-posted_of_shares-posted in
    let m = more g.After-add-difference in
    let f : SFits w64 p.result.cents = search rules in
    record {
      sums = c.sums_due-sums.ensures.sums ∙ ap (λ (x : List ℕ). sums_if a.then.now x l.a) l.invariant.sums ∙ sums-settled a.edition a.then.now l.a;
      ranged = c.sums_due-sums.ensures.ranged;
      difference = rw (m, l.invariant.difference, e) (sym (fold-suc ◌+ℤ◌ (pos 0) l.a (difference_by a.edition a.today.accounts a.today.words.now a.then.now a.residuals.now)));
      small = omega (arith, ap nat_abs m, abs-add (to_z w64 l.difference-bits) p.result.difference, l.invariant.small, p.ensures.small);
      items = filled-step l.a (cents_by a.edition a.today.accounts a.today.words.now a.then.now a.residuals.now) _ c.loop-a-test.true l.invariant.items (to_z-of_z w64 _ f ∙ ap (λ (x : Posted). x.cents) e);
    }
