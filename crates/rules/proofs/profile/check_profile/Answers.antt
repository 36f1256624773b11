-- `check_profile` meets its contract: where length, T and D are in range, the periods decide.
use Rattle.std.specs.Int.{w64}
use Rattle.std.proofs.Common.{◌≡◌, true, false, sym, ◌∙◌, rules, length, eqb, pos, to_z, of_z, ap}
use Rattle.std.proofs.lemmas.Result.{err_from_is_err_and}
use Rattle.integer.proofs.laws.IntegerLaws.{int, parts}
use Rattle.integer.proofs.laws.BelowLaws.{and-true}
use Rattle.rulebook.specs.Units.{intervals, between, positive}
use Rattle.rulebook.specs.Profile.{most_day_kwh, most_contracted, total_possible}
use Rattle.rulebook.specs.Calls.{profile_terms, profile_input, profile_told, profile_call, quantities_in}
use Rattle.rulebook.proofs.laws.UnitsLaws.{between-true}
use Rattle.rulebook.specs.Numbers.{profile_accepted}
use Rattle.rules.proofs.laws.ToldLaws.{told_ok, told_err}
use Rattle.rules.proofs.laws.PeriodsToldLaws.{span_keeps_lem}
use Rattle.rules.proofs.profile.check_profile.Goals as goal
use Rattle.rules.proofs.profile.check_profile.Goals.{After-profile_terms, After-natural}

-- what `profile_terms` answered, of the parameters
terms : (c : After-profile_terms) → c.profile_terms.result ≡ profile_terms (length c.args.profile.now) c.args.total c.args.contracted
terms c =
    let a = c.args in
    let x : to_z w64 (of_z w64 a.total) ≡ a.total = search rules in
    let y : to_z w64 (of_z w64 a.contracted) ≡ a.contracted = search rules in
    rw (x, y) at c.profile_terms.ensures

pub returns-then-not-profile_terms : goal.returns-then-not-profile_terms
unfolding profile_call profile_input profile_told
returns-then-not-profile_terms c = rw (sym (terms (goal.at.returns-then-not-profile_terms c).After-profile_terms) ∙ c.if-not-profile_terms.true)

pub returns-in_err-span : goal.returns-in_err-span
unfolding profile_call profile_input profile_told
returns-in_err-span c =
    let p = err_from_is_err_and c.from_residual.result c.from_residual.ensures.1 in
    let t = told_err _ _ _ c.in_err-span.ensures in
    rw (p.1, p.2, t.1, sym (terms (goal.at.returns-in_err-span c).After-profile_terms) ∙ c.if-not-profile_terms.false, t.0)

-- T and D, read
record Read (c : After-natural) : Type 0 where
  total : c.natural-total.result ≡ positive c.args.total
  contracted : c.natural.result ≡ positive c.args.contracted

read : (c : After-natural) → Read c
read c =
    let a = c.args in
    let x : to_z w64 (of_z w64 a.total) ≡ a.total = search rules in
    let y : to_z w64 (of_z w64 a.contracted) ≡ a.contracted = search rules in
    record { total = rw x at c.natural-total.ensures; contracted = rw y at c.natural.ensures }

pub returns-then-not-possible : goal.returns-then-not-possible
unfolding profile_call profile_input profile_told
returns-then-not-possible c =
    let g = goal.at.returns-then-not-possible c in
    let r = read g.After-natural in
    let t = told_ok _ _ _ c.in_ok-span.ensures in
    let e : total_possible (positive c.args.total) (positive c.args.contracted) ≡ false = sym (rw (r.total, r.contracted) at c.if-not-possible.ensures) in
    rw (sym (terms g.After-profile_terms) ∙ c.if-not-profile_terms.false, t.0, e)

pub returns : goal.returns
unfolding profile_call profile_input profile_told
returns c =
    let g = goal.at.returns c in
    let a = c.args in
    let r = read g.After-natural in
    let t = told_ok _ _ _ c.in_ok-span.ensures in
    let e : total_possible (positive c.args.total) (positive c.args.contracted) ≡ true = sym (rw (r.total, r.contracted) at c.if-not-possible.ensures) in
    let i = sym (terms g.After-profile_terms) ∙ c.if-not-profile_terms.false in
    let b = between-true (pos 0) (pos most_contracted) a.contracted (and-true (between (pos 0) (pos most_day_kwh) a.total) _ (and-true (eqb (length a.profile.now) intervals) _ i).1).1 in
    rw (i, t.0, e, c.keeps.ensures, r.total, r.contracted, t.1)
    (ap profile_accepted (span_keeps_lem (positive a.total) (positive a.contracted) (quantities_in a.profile.now) (omega (int, parts a.contracted, b.0, b.1))))
