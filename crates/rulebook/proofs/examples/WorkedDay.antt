-- One close worked by hand: two accounts, D = 9,498, r = 9,497, L = 1. Each product is a price less V, times kWh. Assumes nothing.
--
-- The residual day r
--   interval 0: load 600. Account 0: BVQ 100, tenders 50, 0 and 40, V 10000. Account 1: BVQ 200, V 103 (101 and 104 without weight, 102.5).
--     R = 600 − 190 − 200 = 210, UEGQ 300 and 100, S = 400: shares 157.5 and 52.5, rounded down 157 and 52.
--     Account 0: MQ 180 leaves 80 for tranche 1, 77 go to tranche 2: −1000 × 80 − 2000 × 77 = −234,000 thousandths.
--     Account 1: MQ 400 leaves 200, all 52 go to tranche 1: −83 × 52 = −4,316.
--   interval 20: load 1000. Account 0: BVQ 460. Account 1: its base contract gives nothing here, a tender 15. R = 1000 − 460 − 15 = 525 is above S = 40 + 25: shares 40 and 25, in full.
--     Account 0: V 9500, MQ 490 leaves 30: tranches 30 and 10, 100 × 30 − 200 × 10 = 1,000.
--     Account 1: V 700 (an IEQ below zero has no weight), MQ 10: tranches 10 and 15, −50 × 10 + 20 × 15 = −200.
--   interval 47: load 58. Account 0: BVQ 30. Account 1: no base contract, a tender of 8.
--     R = 58 − 30 − 8 = 20, UEGQ 60 and 20, S = 80: shares 15 and 5 (21 and 7 if the tender were left out of R).
--     Account 0: V 9000, MQ 40 leaves 10: tranches 10 and 5, 60 × 10 − 500 × 5 = −1,900. Account 1: V 50, MQ 0, all 5 go to tranche 2: −17 × 5 = −85.
-- The closing day D
--   interval 0. Account 0: V of four facilities 80012 / 8 = 10001.5, so 10002:
--     4998 × 1400 − 1002 × 10 − 502 × 20 + 6009 × 30 = 7,157,410. Account 1: V −104, 85 × 7 = 595.
--   interval 20. Account 1: V 0, −247 × 2 = −494.
--   interval 47. Account 0: V 10001, 990 × 1. Account 1: V −205 / 2 = −102.5, so −103: 1 × 3000.
-- Account 0: 7,157,410 + 990 − 234,000 + 1,000 − 1,900 = 6,923,500 thousandths, just half: 6924 cents.
--   All is rounded once. Apart, base contract 6,998,190, tenders 160,210 and residual −234,900 would give 6998 + 160 − 235 = 6923, and any two of them
--   together with the third apart 6923 too: 7158 − 235, 6998 − 75, 6763 + 160.
-- Account 1: 595 − 494 + 3,000 − 4,316 − 200 − 85 = −1,500, just half: −2 cents. The MSSL: −6922, as is its exact amount: −500 and +500 leave no rounding difference.
-- By the second edition (X = 9,497) account 1 has the odd kWh of interval 0: 210 × 300 / 400 = 157.5 for account 0, 157, and 210 − 157 = 53 for account 1. All else is the
--   same: −83 × 53 = −4,399, and −1,583 in all: −2 cents leave +417, and the rounding difference is −83.
use Rattle.std.specs.Prelude.{◌≡◌, refl, cond, [], ◌∷◌, ℕ, eqb, pos, ◌+ℤ◌}
use Rattle.integer.specs.Integer.{minus, with_sign}
use Rattle.integer.specs.Below.{fold, sum_ℤ, tabulate}
use Rattle.rulebook.specs.declared.Terms.{Terms}
use Rattle.rulebook.specs.declared.Edition.TheVariants.{First, Second}
use Rattle.rulebook.specs.Units.{nearest}
use Rattle.rulebook.specs.ReferencePrice.{average, reference_price}
use Rattle.rulebook.specs.Shares.{share, share_of, second_share, second_share_of, edition_share}
use Rattle.rulebook.specs.Tranches.{tranche1, tranche2}
use Rattle.rulebook.specs.DayAmount.{AccountData, SettlementData, reference_price_of, vested_quantity, tender_amount, vesting_amount, share_amount, hedge_total, spare_generation, residual_load, rvq, residual_amount, settles_residual, edition_of, interval_amount, exact_amount, posted_amount, mssl_amount, mssl_exact, rounding_difference}
use Rattle.rulebook.proofs.examples.Figures.{account_data, nothing, accounts}

-- data at intervals 0, 20 and 47, none between
abbrev three {ℓ} : {A : Type ℓ} → A → A → A → A → ℕ → A
three none x y z i = cond (eqb i 0) x (cond (eqb i 20) y (cond (eqb i 47) z none))

abbrev closing : ℕ → ℕ → AccountData
closing a = cond (eqb a 0)
    (three nothing
    (account_data 1400 (pos 15000) (10 ∷ 20 ∷ 30 ∷ []) (pos 9000 ∷ pos 9500 ∷ pos 16011 ∷ []) (pos 10000 ∷ pos 10002 ∷ pos 10003 ∷ pos 10002 ∷ []) (pos 3 ∷ pos 1 ∷ pos 2 ∷ pos 2 ∷ []) 0 0 (pos 0) (pos 0))
    nothing
    (account_data 1 (pos 10991) [] [] (pos 10001 ∷ []) (pos 4 ∷ []) 0 0 (pos 0) (pos 0)))
    (three nothing
    (account_data 7 (minus 19) [] [] (pos 101 ∷ minus 104 ∷ []) (minus 5 ∷ pos 2 ∷ []) 0 0 (pos 0) (pos 0))
    (account_data 2 (minus 247) [] [] (pos 0 ∷ []) (pos 0 ∷ []) 0 0 (pos 0) (pos 0))
    (account_data 3000 (minus 102) [] [] (minus 101 ∷ minus 104 ∷ []) (pos 1 ∷ pos 1 ∷ []) 0 0 (pos 0) (pos 0)))

abbrev residual : ℕ → ℕ → AccountData
residual a = cond (eqb a 0)
    (three nothing
    (account_data 100 (pos 12000) (50 ∷ 0 ∷ 40 ∷ []) (pos 11000 ∷ pos 0 ∷ pos 10500 ∷ []) (pos 10000 ∷ []) (pos 7 ∷ []) 300 180 (pos 9000) (pos 8000))
    (account_data 460 (pos 9000) [] [] (pos 9500 ∷ []) (pos 5 ∷ []) 40 490 (pos 9600) (pos 9300))
    (account_data 30 (pos 12000) [] [] (pos 9000 ∷ []) (pos 1 ∷ []) 60 40 (pos 9060) (pos 8500)))
    (three nothing
    (account_data 200 (pos 5000) [] [] (pos 101 ∷ pos 104 ∷ []) (minus 5 ∷ pos 0 ∷ []) 100 400 (pos 20) (pos 7))
    (account_data 0 (pos 0) (15 ∷ []) (pos 0 ∷ []) (pos 700 ∷ minus 300 ∷ []) (pos 2 ∷ minus 1 ∷ []) 25 10 (pos 650) (pos 720))
    (account_data 0 (pos 0) (8 ∷ []) (pos 550 ∷ []) (pos 50 ∷ []) (pos 1 ∷ []) 20 0 (pos 60) (pos 33)))

abbrev worked : SettlementData
worked = record {
  account = λ a d. cond (eqb d 9498) (closing a) (residual a);
  load = λ d. cond (eqb d 9498) (three 0 999 3 77) (three 0 600 1000 58);
}

-- the same terms with X = 9,497
abbrev changed : Terms
changed = record { accounts = 2; lag = 1; horizon = 1; first = 9497; change = 9497 }

pub record WorkedDay : Type 0 where
  pub exact0 : exact_amount (accounts 2) worked 0 9498 ≡ pos 6923500
  pub exact1 : exact_amount (accounts 2) worked 1 9498 ≡ minus 1500
  pub posted0 : posted_amount (accounts 2) worked 0 9498 ≡ pos 6924
  pub posted1 : posted_amount (accounts 2) worked 1 9498 ≡ minus 2
  pub mssl : mssl_amount (accounts 2) worked 9498 ≡ minus 6922
  -- in interval 47 of r account 1's tender of 8 counts in R
  pub tender_alone : tabulate 2 (rvq 58 2 (λ b. residual b 47) First) ≡ 15 ∷ 5 ∷ []
  -- account 0's vesting of D and residual of r in thousandths, and what they would come to if rounded apart
  pub vesting0 : sum_ℤ 48 (λ i. vesting_amount (closing 0 i)) ≡ pos 7158400
  pub residual0 : sum_ℤ 48 (λ i. residual_amount (worked.load 9497 i) 2 (λ b. residual b i) First 0) ≡ minus 234900
  pub apart : nearest (pos 7158400) 1000 +ℤ nearest (minus 234900) 1000 ≡ pos 6923
  -- the second edition
  pub changed0 : exact_amount changed worked 0 9498 ≡ pos 6923500
  pub changed1 : exact_amount changed worked 1 9498 ≡ minus 1583
  -- the rounding difference, of either edition
  pub difference : rounding_difference (accounts 2) worked 9498 ≡ pos 0
  pub changed_difference : rounding_difference changed worked 9498 ≡ minus 83
  pub changed_shares : (tabulate 2 (rvq 600 2 (λ b. residual b 0) Second) ≡ 157 ∷ 53 ∷ []) × (tabulate 2 (rvq 1000 2 (λ b. residual b 20) Second) ≡ 40 ∷ 25 ∷ [])
  -- r is F: its own close settles no residual. Account 1: 4897 × 200 − 700 × 15 + 500 × 8 = 972,900
  pub first_day : posted_amount (accounts 2) worked 1 9497 ≡ pos 973
  -- account 0 has 130,000 then
  pub first_difference : rounding_difference (accounts 2) worked 9497 ≡ minus 100

pub worked-day : WorkedDay
unfolding fold tabulate share share_of second_share second_share_of edition_share tranche1 tranche2 reference_price average nearest with_sign rounding_difference mssl_exact mssl_amount posted_amount exact_amount interval_amount settles_residual edition_of tender_amount vesting_amount vested_quantity hedge_total spare_generation residual_load rvq share_amount residual_amount reference_price_of
worked-day = record {
  exact0 = refl;
  exact1 = refl;
  posted0 = refl;
  posted1 = refl;
  mssl = refl;
  tender_alone = refl;
  vesting0 = refl;
  residual0 = refl;
  apart = refl;
  changed0 = refl;
  changed1 = refl;
  difference = refl;
  changed_difference = refl;
  changed_shares = (refl, refl);
  first_day = refl;
  first_difference = refl;
}
