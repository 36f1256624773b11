-- Document 01, "Day amount" and "The book": the bound of a day's amount is reached, either way; so is that of the rounding difference (document 02, P5); R of three
-- accounts, and the figures of their report (P3); r with L = 2. Computed.
-- Assumes nothing.
use Rattle.std.specs.Prelude.{◌≡◌, refl, true, false, cond, List, [], ◌∷◌, ℕ, ◌*◌, ◌^◌, eqb, ltb, ℤ, pos, get_or}
use Rattle.integer.specs.Integer.{minus, with_sign}
use Rattle.integer.specs.Below.{fold, tabulate}
use Rattle.integer.specs.Words.{word}
use Rattle.rulebook.specs.declared.Terms.{Terms}
use Rattle.rulebook.specs.Units.{nearest}
use Rattle.rulebook.specs.ReferencePrice.{average, reference_price}
use Rattle.rulebook.specs.Shares.{most_accounts, share, share_of, edition_share}
use Rattle.rulebook.specs.Tranches.{tranche1, tranche2}
use Rattle.rulebook.specs.DayAmount.{AccountData, SettlementData, reference_price_of, vested_quantity, tender_amount, vesting_amount, share_amount, hedge_total, report_figure, spare_generation, residual_load, rvq, residual_amount, settles_residual, edition_of, interval_amount, exact_amount, posted_amount, mssl_amount, mssl_exact, rounding_difference}
use Rattle.rulebook.specs.WellFormed.{day_bound}
use Rattle.rulebook.specs.Bounds.{most_days}
use Rattle.rulebook.proofs.examples.Figures.{account_data, nothing, accounts}
use Rattle.rulebook.proofs.examples.Examples.{one}

-- every quantity and price at its end, V at the other
abbrev extreme : ℤ → ℤ → AccountData
extreme price v =
    account_data 10000000 price (10000000 ∷ 10000000 ∷ 10000000 ∷ []) (price ∷ price ∷ price ∷ []) (v ∷ []) (pos 1 ∷ []) 10000000 0 price price

abbrev days : AccountData → SettlementData
days x = record { account = λ a d i. x; load = λ d i. 1000000000 }

pub record BoundReached : Type 0 where
  pub most : posted_amount one (days (extreme (pos 1000000) (minus 1000000))) 0 9498 ≡ pos 4800000000000
  pub least : posted_amount one (days (extreme (minus 1000000) (pos 1000000))) 0 9498 ≡ minus 4800000000000
  pub mssl : mssl_amount one (days (extreme (pos 1000000) (minus 1000000))) 9498 ≡ minus 4800000000000
  -- so the largest balance that a book comes to, the MSSL's, is below half of what a signed word reaches
  pub fits_word : ltb (most_accounts * (most_days * day_bound)) (2 ^ 62) ≡ true

pub bound_reached : BoundReached
unfolding fold share share_of edition_share tranche1 tranche2 reference_price average nearest with_sign mssl_amount posted_amount exact_amount interval_amount settles_residual edition_of tender_amount vesting_amount vested_quantity hedge_total spare_generation residual_load rvq share_amount residual_amount reference_price_of
bound_reached = record { most = refl; least = refl; mssl = refl; fits_word = refl }

-- 1 kWh in interval 0 at this price, V 0: so many thousandths of a cent
abbrev exactly : ℤ → AccountData
exactly price = account_data 1 price [] [] (pos 0 ∷ []) (pos 0 ∷ []) 0 0 (pos 0) (pos 0)

abbrev in_first_interval : (ℕ → AccountData) → SettlementData
in_first_interval x = record { account = λ a d i. cond (eqb i 0) (x a) nothing; load = λ d i. 0 }

abbrev difference_of : ℤ → ℤ
difference_of price = rounding_difference one (in_first_interval (λ a. exactly price)) 9497

pub record DifferenceReached : Type 0 where
  -- one account: below half a cent no cent is posted for the rest of its amount, and the rest is the difference; from half a cent on it is the rest less 1,000
  pub below_half : (difference_of (pos 499) ≡ pos 499) × (difference_of (minus 499) ≡ minus 499) × (difference_of (pos 1499) ≡ pos 499)
  pub half : (difference_of (pos 500) ≡ minus 500) × (difference_of (minus 500) ≡ pos 500)
  pub above_half : difference_of (pos 501) ≡ minus 499
  pub whole : (difference_of (pos 0) ≡ pos 0) × (difference_of (pos 7000) ≡ pos 0)
  -- three accounts: 100 + 499 − 400
  pub of_three : rounding_difference (accounts 3) (in_first_interval (λ a. exactly (word (pos 100 ∷ pos 499 ∷ pos 600 ∷ []) a))) 9497 ≡ pos 199
  -- the bound of three accounts, either way
  pub most : rounding_difference (accounts 3) (in_first_interval (λ a. exactly (minus 500))) 9497 ≡ pos 1500
  pub least : rounding_difference (accounts 3) (in_first_interval (λ a. exactly (pos 500))) 9497 ≡ minus 1500

pub difference_reached : DifferenceReached
unfolding fold reference_price average nearest with_sign rounding_difference mssl_exact mssl_amount posted_amount exact_amount interval_amount settles_residual tender_amount vesting_amount reference_price_of
difference_reached = record {
  below_half = (refl, refl, refl);
  half = (refl, refl);
  above_half = refl;
  whole = (refl, refl);
  of_three = refl;
  most = refl;
  least = refl;
}

-- an account of which only the hedges count
abbrev hedged : ℕ → List ℕ → AccountData
hedged bvq tvq = account_data bvq (pos 0) tvq [] (pos 0 ∷ []) (pos 0 ∷ []) 0 0 (pos 0) (pos 0)

-- 1000 less three times 10 + 1 + 2 + 4
pub record ResidualOfThree : Type 0 where
  pub left : residual_load 1000 3 (λ b. hedged 10 (1 ∷ 2 ∷ 4 ∷ [])) ≡ pos 949

pub residual-of_three : ResidualOfThree
unfolding fold residual_load hedge_total vested_quantity
residual-of_three = record { left = refl }

-- three accounts, the second without a base contract and with one tender
abbrev reported : ℕ → AccountData
reported b = get_or (hedged 100 (1 ∷ 20 ∷ 300 ∷ []) ∷ hedged 0 (4 ∷ []) ∷ hedged 3000 (50 ∷ 0 ∷ 7000 ∷ []) ∷ []) b nothing

pub record ReportOfThree : Type 0 where
  -- after the base round, the first, the second and the third tranches
  pub figures : tabulate 4 (report_figure 3 reported) ≡ 3100 ∷ 3155 ∷ 3175 ∷ 10475 ∷ []
  pub left : residual_load 12000 3 reported ≡ pos 1525

pub report-of_three : ReportOfThree
unfolding fold tabulate report_figure residual_load hedge_total vested_quantity
report-of_three = record { figures = refl; left = refl }

-- ---- L = 2

abbrev lagged : Terms
lagged = record { accounts = 1; lag = 2; horizon = 1; first = 9497; change = 0 }

-- in interval 0 spare generation of 10 kWh and a load of 100, V 0: at 1000 cents per MWh on day 9,497, at 2000 on 9,498
abbrev spare : ℤ → AccountData
spare price = account_data 0 (pos 0) [] [] (pos 0 ∷ []) (pos 0 ∷ []) 10 0 (pos 0) price

abbrev spare_days : SettlementData
spare_days = record {
  account = λ a d i. cond (eqb i 0) (cond (eqb d 9497) (spare (pos 1000)) (cond (eqb d 9498) (spare (pos 2000)) nothing)) nothing;
  load = λ d i. cond (eqb i 0) 100 0;
}

pub record LagOfTwo : Type 0 where
  -- r of 9,498 is before F, r of 9,499 is F
  pub not_due : settles_residual lagged 9498 ≡ false
  pub due : settles_residual lagged 9499 ≡ true
  pub nothing_yet : posted_amount lagged spare_days 0 9498 ≡ pos 0
  pub of_first : posted_amount lagged spare_days 0 9499 ≡ pos 10
  pub of_second : posted_amount lagged spare_days 0 9500 ≡ pos 20

pub lag-of_two : LagOfTwo
unfolding fold share share_of edition_share tranche1 tranche2 reference_price average nearest with_sign posted_amount exact_amount interval_amount settles_residual edition_of tender_amount vesting_amount vested_quantity hedge_total spare_generation residual_load rvq share_amount residual_amount reference_price_of
lag-of_two = record { not_due = refl; due = refl; nothing_yet = refl; of_first = refl; of_second = refl }
