-- `residual_of` meets its contract: its tests are those of `share_input`.
use Rattle.std.specs.Int.{w64}
use Rattle.std.proofs.Common.{◌≡◌, ◌&&◌, ◌∙◌, rules, leb, leb-true, length, pos, to_z, of_z}
use Rattle.std.proofs.Math.Bool.{and_assoc}
use Rattle.std.proofs.lemmas.Result.{err_from_is_err_and}
use Rattle.integer.specs.Integer.{minus}
use Rattle.integer.proofs.laws.BelowLaws.{and-true}
use Rattle.rulebook.specs.declared.Kind.TheVariants.{Quantity}
use Rattle.rulebook.specs.Units.{between}
use Rattle.rulebook.specs.Shares.{most_accounts, least_residual, most_residual}
use Rattle.rulebook.specs.Calls.{all_in_range, share_input}
use Rattle.rulebook.proofs.laws.CallsLaws.{shares-in}
use Rattle.rules.proofs.laws.ToldLaws.{told_ok, told_err}
use Rattle.rules.proofs.share.residual_of.Goals as goal
use Rattle.rules.proofs.share.residual_of.Goals.{After-is_between, Else-not-is_between-n, In_ok-spare_generation}

-- what `is_between` answered, of the parameter
residual : (c : After-is_between) → c.is_between.result ≡ between (minus least_residual) (pos most_residual) c.args.r
residual c = let x : to_z w64 (of_z w64 c.args.r) ≡ c.args.r = search rules in rw x at c.is_between.ensures

pub returns-then-not-is_between-n : goal.returns-then-not-is_between-n
unfolding share_input
returns-then-not-is_between-n c =
    let n = length c.args.uegq.now in
    rw (
      ← residual (goal.at.returns-then-not-is_between-n c).After-is_between,
      ← and_assoc c.is_between.result (leb 1 n && leb n most_accounts) (all_in_range Quantity c.args.uegq.now),
      c.if-not-is_between-n.true,
    )

pub spare_generation-requires : goal.spare_generation-requires
spare_generation-requires c =
    let n = length c.args.uegq.now in
    leb-true n most_accounts (and-true (leb 1 n) (leb n most_accounts) (and-true c.is_between.result (leb 1 n && leb n most_accounts) c.if-not-is_between-n.false).1).1

-- with R and the length in range, the list's own test is left
input : (c : Else-not-is_between-n) → c.is_between.result ≡ between (minus least_residual) (pos most_residual) c.args.r → share_input c.args.r c.args.uegq.now ≡ all_in_range Quantity c.args.uegq.now
unfolding share_input
input c e =
    let n = length c.args.uegq.now in
    rw (← e, ← and_assoc c.is_between.result (leb 1 n && leb n most_accounts) (all_in_range Quantity c.args.uegq.now), c.if-not-is_between-n.false)

pub returns-in_err-spare_generation : goal.returns-in_err-spare_generation
returns-in_err-spare_generation c =
    let g = goal.at.returns-in_err-spare_generation c in
    let p = err_from_is_err_and c.from_residual.result c.from_residual.ensures.1 in
    let t = told_err _ _ _ c.in_err-spare_generation.ensures in
    rw (p.1, p.2, t.1, input g.Else-not-is_between-n (residual g.After-is_between), t.0)

pub new-requires : goal.new-requires
new-requires c =
    let g = goal.at.new-requires c in
    let x : to_z w64 (of_z w64 c.args.r) ≡ c.args.r = search rules in
    let t = told_ok _ _ _ c.in_ok-spare_generation.ensures in
    rw x (shares-in c.args.r c.args.uegq.now (input g.Else-not-is_between-n (residual g.After-is_between) ∙ t.0)).residual

pub returns : goal.returns
returns c =
    let g = goal.at.returns c in
    let x : to_z w64 (of_z w64 c.args.r) ≡ c.args.r = search rules in
    let t = told_ok _ _ _ c.in_ok-spare_generation.ensures in
    rw (input g.Else-not-is_between-n (residual g.After-is_between), t.0, c.new.ensures, x, t.1)
