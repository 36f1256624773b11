-- The figures of the holders' reports, round by round; the last of them is the hedge total. Assumes nothing.
use Rattle.std.specs.Prelude.{◌≡◌, refl}
use Rattle.std.proofs.Math.Path.{ap}
use Rattle.std.proofs.Common.{◌∙◌}
use Prim.Native.Nat.{ℕ, ◌+◌}
use native.Mathlib.Omega.{arith}
use Rattle.integer.specs.Below.{fold, sum_ℕ}
use Rattle.integer.proofs.laws.BelowLaws.{fold-suc, sum_ℕ-add, sum_ℕ-swap}
use Rattle.rulebook.specs.DayAmount.{AccountData, tenders, vested_quantity, hedge_total, report_figure, ReportFigures, residual_load}

module _ (n : ℕ) (x : ℕ → AccountData) where
  pub report-base : report_figure n x 0 ≡ sum_ℕ n (λ b. (x b).bvq)
  unfolding report_figure fold
  report-base = omega arith

  pub report-round : (t : ℕ) → report_figure n x (t + 1) ≡ report_figure n x t + sum_ℕ n (λ b. (x b).tvq t)
  unfolding report_figure
  report-round t = omega (arith, fold-suc ◌+◌ 0 t (λ t. sum_ℕ n (λ b. (x b).tvq t)))

  report-so_far : (m : ℕ) → report_figure n x m ≡ sum_ℕ n (λ b. (x b).bvq) + sum_ℕ n (λ b. sum_ℕ m (x b).tvq)
  unfolding report_figure
  report-so_far m = ap (λ (z : ℕ). sum_ℕ n (λ b. (x b).bvq) + z) (sum_ℕ-swap m n (λ b. (x b).tvq))

  pub report-total : report_figure n x tenders ≡ hedge_total n x
  unfolding hedge_total vested_quantity
  report-total = report-so_far tenders ∙ sum_ℕ-add n (λ b. (x b).bvq) (λ b. sum_ℕ tenders (x b).tvq)

  pub report-figures : ReportFigures n x
  unfolding residual_load
  report-figures = record {
    base = report-base;
    so_far = report-so_far;
    round = report-round;
    total = report-total;
    residual = λ load. rw report-total refl;
  }
