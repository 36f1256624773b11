-- `sums_of` meets its contract: each turn takes one facility more, and the sums stay within their bounds.
use Rattle.std.specs.Int.{w64}
use Rattle.std.proofs.Common.{◌≡◌, ℕ, ℤ, ◌≤◌, ◌<◌, List, nat_abs, length, sym, ap, ◌∙◌, arith, pos, to_z, of_z, rules, length-append, ◌+◌, ◌++◌, ◌∷◌, []}
use Rattle.std.proofs.lemmas.Slice.Zip.{zip_turn, zip_end}
use Rattle.std.proofs.lemmas.Int.{to_z-of_z}
use Rattle.integer.proofs.laws.IntegerLaws.{int, fits-abs}
use Rattle.integer.specs.Words.{word}
use Rattle.rulebook.specs.declared.Kind.TheVariants.{Injection, Price}
use Rattle.rulebook.specs.Units.{most_price, most_quantity}
use Rattle.rulebook.specs.Calls.{PricesIn}
use Rattle.rulebook.proofs.laws.UnitsLaws.{price-range, injection-range}
use Rattle.rulebook.proofs.laws.CallsLaws.{in_range-at}
use Rattle.rules.specs.PriceSums.{sums_of, sums-zero, sums-suc, sums-count}
use Rattle.rules.proofs.price.sums_of.Goals as goal
use Rattle.rules.proofs.price.sums_of.Goals.{In-Some}

-- each MEP and IEQ of accepted lists
module _ (mep ieq : List ℤ) (p : PricesIn mep ieq) (f : ℕ) (l : f < length mep) where
  mep-small : nat_abs (word mep f) ≤ most_price
  mep-small = price-range (word mep f) (in_range-at Price mep p.prices f l)

  ieq-small : nat_abs (word ieq f) ≤ most_quantity
  ieq-small = let e = p.same in injection-range (word ieq f) (in_range-at Injection ieq p.injections f (omega arith))

-- the turn's facility
record Turn (c : In-Some) : Type 0 where
  below : length c.loop-m.yielded < length c.args.mep.now
  mep : to_z w64 (of_z w64 c.in-Some.m.now) ≡ word c.args.mep.now (length c.loop-m.yielded)
  ieq : to_z w64 (of_z w64 c.in-Some.i.now) ≡ word c.args.ieq.now (length c.loop-m.yielded)

turn : (c : In-Some) → Turn c
turn c =
    let l = c.loop-m in
    let t = zip_turn c.args.mep.now c.args.ieq.now l.yielded c.into_iter-m-iterator.result l.m-iterator c.next.new.self c.next.result (cc) (cc) l.yielded_by (c.in-Some.m, c.in-Some.i) c.in-Some.is c.next.ensures.steps in
    record {
      below = t.0;
      mep = rw (t.2 (pos 0)) (to_z-of_z w64 _ (fits-abs (omega (int, mep-small c.args.mep.now c.args.ieq.now c.requires (length l.yielded) t.0))));
      ieq = rw (t.3 (pos 0)) (to_z-of_z w64 _ (fits-abs (omega (int, ieq-small c.args.mep.now c.args.ieq.now c.requires (length l.yielded) t.0))));
    }

pub loop-m-init : goal.loop-m-init
loop-m-init c = (search rules, search rules, c.none-sums.ensures ∙ sums-zero (word c.args.mep.now) (word c.args.ieq.now))

pub with_facility-sums-requires : goal.with_facility-sums-requires
with_facility-sums-requires c =
    let t = turn (goal.at.with_facility-sums-requires c).In-Some in
    let f = length c.loop-m.yielded in
    let x = c.args.mep.now in
    let y = c.args.ieq.now in (
      rw (c.loop-m.invariant.2, sums-count f (word x) (word y)) (omega (arith, t.below, c.requires.few)),
      rw t.mep (mep-small x y c.requires f t.below),
      rw t.ieq (ieq-small x y c.requires f t.below),
    )

pub loop-m-preserved : goal.loop-m-preserved
loop-m-preserved c =
    let t = turn (goal.at.loop-m-preserved c).In-Some in
    let f = length c.loop-m.yielded in
    let x = word c.args.mep.now in
    let y = word c.args.ieq.now in
    let n : length (c.loop-m.yielded ++ ((c.in-Some.m, c.in-Some.i) ∷ [])) ≡ f + 1 = simp length-append in
    (search rules, search rules, rw (c.with_facility-sums.ensures, t.mep, t.ieq, c.loop-m.invariant.2, n) (sym (sums-suc f x y)))

pub returns : goal.returns
returns c =
    let l = c.loop-m in
    let x = c.args.mep.now in
    let y = c.args.ieq.now in
    let e = zip_end x y l.yielded c.into_iter-m-iterator.result l.m-iterator c.next.new.self c.next.result (cc) (cc) l.yielded_by c.in-None.is c.next.ensures.steps in
    let k : length l.yielded ≡ length x = omega (arith, e, c.requires.same) in
    l.invariant.2 ∙ ap (λ (n : ℕ). sums_of n (word x) (word y)) k
