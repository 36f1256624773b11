-- `residuals` meets its contract: each call gives R and S of its interval.
use Rattle.std.proofs.Common.{rules, pos}
use Rattle.rulebook.specs.Layout.{interval_of}
use Rattle.amounts.specs.Interval.{residual_at}
use Rattle.amounts.specs.Day.{residuals_of}
use Rattle.amounts.proofs.laws.DayLaws.{made-of}
use Rattle.amounts.proofs.slot.Slot.residuals.Goals as goal

pub returns : goal.returns
unfolding residuals_of
returns c =
    let s = c.args.self in
    made-of _ _ (λ i. residual_at s.accounts (interval_of s.accounts s.words.now i)) c.from_fn.result (record { load = pos 0; spare = 0 }) 48 (λ j y q l e. search rules) c.from_fn.ensures.items
