-- `AcceptedTerms::new` meets its contract: terms that fit are in their ranges.
use Rattle.std.specs.Prelude.{T}
use Rattle.std.proofs.Common.{sym, subst, ◌∙◌}
use Rattle.rulebook.proofs.laws.HeaderLaws.{opened-terms}
use Rattle.rulebook.proofs.accepted.AcceptedTerms.new.Goals as goal

pub invariant_of-result : goal.invariant_of-result
invariant_of-result c = opened-terms c.args.terms (subst T (sym c.if-terms_fit.true ∙ c.terms_fit.ensures) tt)
