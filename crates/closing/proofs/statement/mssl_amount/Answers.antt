-- `mssl_amount` meets its contract: the sum is below 2 × 10^14, so its negation fits.
use Rattle.std.proofs.Common.{◌≡◌, ℤ, pos, neg_ℤ, nat_abs, ◌-ℤ◌, length, ap, ◌∙◌, arith, SFits, w64, to_z, of_z}
use Rattle.std.proofs.lemmas.Int.{to_z-of_z}
use lib.IntN.{+ℤ_idl}
use Rattle.integer.proofs.laws.IntegerLaws.{fits-abs, abs_neg}
use Rattle.integer.proofs.Bits.{got}
use Rattle.integer.specs.Below.{sum_ℤ}
use Rattle.integer.specs.Words.{word}
use Rattle.closing.proofs.laws.WrittenLaws.{amounts-le}
use Rattle.closing.proofs.statement.mssl_amount.Goals as goal
use Rattle.closing.proofs.statement.mssl_amount.Goals.{After-amounts_sum}

module _ (c : After-amounts_sum) where
  -- the amount, of the sum read back
  amount : pos 0 -ℤ to_z w64 (of_z w64 c.amounts_sum.result) ≡ neg_ℤ (sum_ℤ (length c.args.amounts.now) (word c.args.amounts.now))
  amount = ap (λ (z : ℤ). pos 0 -ℤ z) (got c.amounts_sum.result c.amounts_sum.type_inv ∙ c.amounts_sum.ensures) ∙ +ℤ_idl _

  fits : SFits w64 (pos 0 -ℤ to_z w64 (of_z w64 c.amounts_sum.result))
  fits =
      let w = c.args.amounts.now in
      fits-abs (omega (arith, ap nat_abs amount, abs_neg (sum_ℤ (length w) (word w)), amounts-le (length w) (length w) w c.requires.0 (omega arith), c.requires.1))

pub overflow_sub-result : goal.overflow_sub-result
overflow_sub-result c = fits (goal.at.overflow_sub-result c).After-amounts_sum

pub returns : goal.returns
returns c = to_z-of_z w64 _ (fits (goal.at.returns c).After-amounts_sum) ∙ amount (goal.at.returns c).After-amounts_sum
