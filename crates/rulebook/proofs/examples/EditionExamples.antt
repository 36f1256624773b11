-- Document 02, P2: shares of the second edition, the edition of a residual day, residual days on each side of X. Computed. Assumes nothing.
use Rattle.std.specs.Prelude.{◌≡◌, refl, cond, List, [], ◌∷◌, ℕ, eqb, ℤ, pos, length, replicate}
use Rattle.integer.specs.Integer.{minus, with_sign}
use Rattle.integer.specs.Below.{fold, tabulate}
use Rattle.rulebook.specs.declared.Terms.{Terms}
use Rattle.rulebook.specs.declared.Edition.TheVariants.{First, Second}
use Rattle.rulebook.specs.Units.{nearest}
use Rattle.rulebook.specs.ReferencePrice.{average, reference_price}
use Rattle.rulebook.specs.Shares.{share, share_of, second_share, second_share_of, edition_share}
use Rattle.rulebook.specs.Tranches.{tranche1, tranche2}
use Rattle.rulebook.specs.DayAmount.{AccountData, SettlementData, reference_price_of, vested_quantity, tender_amount, vesting_amount, share_amount, hedge_total, residual_load, rvq, residual_amount, settles_residual, edition_of, interval_amount, exact_amount, posted_amount, mssl_amount}
use Rattle.rulebook.specs.Calls.{all_in_range, share_input, share_word, share_call}
use Rattle.rulebook.proofs.examples.Figures.{quantities, account_data, nothing}

-- ---- Shares

-- R, each UEGQ; each share
abbrev Shares : ℤ → List ℕ → List ℕ → Type 0
Shares r uegq q = tabulate (length uegq) (second_share r (length uegq) (quantities uegq)) ≡ q

pub record SecondShares : Type 0 where
  -- parts that are whole, and the odd kWh as a running sum completes them
  pub whole : Shares (pos 300) (100 ∷ 200 ∷ 300 ∷ []) (50 ∷ 100 ∷ 150 ∷ [])
  pub one : Shares (pos 1) (1 ∷ 1 ∷ 1 ∷ []) (0 ∷ 0 ∷ 1 ∷ [])
  pub odd : Shares (pos 7) (3 ∷ 1 ∷ 4 ∷ 1 ∷ 5 ∷ []) (1 ∷ 1 ∷ 2 ∷ 0 ∷ 3 ∷ [])
  -- one kWh short of S; S and more: UEGQ
  pub nearly : Shares (pos 5) (1 ∷ 2 ∷ 3 ∷ []) (0 ∷ 2 ∷ 3 ∷ [])
  pub all : Shares (pos 6) (1 ∷ 2 ∷ 3 ∷ []) (1 ∷ 2 ∷ 3 ∷ [])
  pub more : Shares (pos 7) (1 ∷ 2 ∷ 3 ∷ []) (1 ∷ 2 ∷ 3 ∷ [])
  -- nothing to share, and nothing to spare
  pub none : Shares (pos 0) (1 ∷ 2 ∷ 3 ∷ []) (0 ∷ 0 ∷ 0 ∷ [])
  pub below : Shares (minus 5) (1 ∷ 2 ∷ 3 ∷ []) (0 ∷ 0 ∷ 0 ∷ [])
  pub no_spare : Shares (pos 5) (0 ∷ 0 ∷ 0 ∷ []) (0 ∷ 0 ∷ 0 ∷ [])
  -- who has nothing to spare gets nothing, wherever it stands
  pub zero_uegq : Shares (pos 3) (0 ∷ 5 ∷ 0 ∷ 5 ∷ 0 ∷ []) (0 ∷ 1 ∷ 0 ∷ 2 ∷ 0 ∷ [])
  -- the largest UEGQ of all 32 accounts, one kWh short of S
  pub largest : Shares (pos 319999999) (replicate 32 10000000) (9999999 ∷ replicate 31 10000000)
  -- the call, by edition; words beyond kept
  pub called : (share_call First (pos 2) (replicate 3 (pos 1)) (replicate 4 (pos 7)) ≡ record { number = 0; output = pos 0 ∷ pos 0 ∷ pos 0 ∷ pos 7 ∷ [] })
      × (share_call Second (pos 2) (replicate 3 (pos 1)) (replicate 4 (pos 7)) ≡ record { number = 0; output = pos 0 ∷ pos 1 ∷ pos 1 ∷ pos 7 ∷ [] })

pub second-shares : SecondShares
unfolding fold tabulate share share_of second_share second_share_of edition_share all_in_range share_input share_word share_call
second-shares = record {
  whole = refl;
  one = refl;
  odd = refl;
  nearly = refl;
  all = refl;
  more = refl;
  none = refl;
  below = refl;
  no_spare = refl;
  zero_uegq = refl;
  largest = refl;
  called = (refl, refl);
}

-- ---- Residual days on each side of X

-- N accounts, L = 2, H = 1, F = 9,497
abbrev terms : ℕ → ℕ → Terms
terms n x = record { accounts = n; lag = 2; horizon = 1; first = 9497; change = x }

-- every day alike: in interval 0 a load of 2 kWh and three accounts with 1 kWh each, V 0, at 100, 200 and 300 cents a kWh, all in tranche 2
abbrev spare : ℤ → AccountData
spare price = account_data 0 (pos 0) [] [] (pos 0 ∷ []) (pos 0 ∷ []) 1 0 (pos 0) price

abbrev alike : SettlementData
alike = record {
  account = λ a d i. cond (eqb i 0) (cond (eqb a 0) (spare (pos 100000)) (cond (eqb a 1) (spare (pos 200000)) (spare (pos 300000)))) nothing;
  load = λ d i. cond (eqb i 0) 2 0;
}

-- what the three accounts are posted for D, and the MSSL
abbrev Posts : ℕ → ℕ → List ℤ → ℤ → Type 0
Posts x D amounts mssl = (tabulate 3 (λ a. posted_amount (terms 3 x) alike a D) ≡ amounts) × (mssl_amount (terms 3 x) alike D ≡ mssl)

pub record Editions : Type 0 where
  -- from X on, and never if X is 0
  pub sides : (edition_of (terms 3 9500) 9499 ≡ First) × (edition_of (terms 3 9500) 9500 ≡ Second) × (edition_of (terms 3 9500) 9501 ≡ Second)
  pub never : (edition_of (terms 3 0) 9497 ≡ First) × (edition_of (terms 3 0) 36524 ≡ First) × (edition_of (terms 3 0) 0 ≡ First)
  pub last : (edition_of (terms 3 36524) 36523 ≡ First) × (edition_of (terms 3 36524) 36524 ≡ Second)
  -- X = 9,500: the close of 9,501 is past X and its residual day 9,499 is not; that of 9,502 settles X itself
  pub before : Posts 9500 9501 (pos 0 ∷ pos 0 ∷ pos 0 ∷ []) (pos 0)
  pub from : Posts 9500 9502 (pos 0 ∷ pos 200 ∷ pos 300 ∷ []) (minus 500)
  pub after : Posts 9500 9503 (pos 0 ∷ pos 200 ∷ pos 300 ∷ []) (minus 500)
  -- X = F, and X = 0
  pub at_first : Posts 9497 9499 (pos 0 ∷ pos 200 ∷ pos 300 ∷ []) (minus 500)
  pub without : Posts 0 9502 (pos 0 ∷ pos 0 ∷ pos 0 ∷ []) (pos 0)

pub editions : Editions
unfolding fold tabulate share share_of second_share second_share_of edition_share tranche1 tranche2 reference_price average nearest with_sign mssl_amount posted_amount exact_amount interval_amount settles_residual edition_of tender_amount vesting_amount vested_quantity hedge_total residual_load rvq share_amount residual_amount reference_price_of
editions = record {
  sides = (refl, refl, refl);
  never = (refl, refl, refl);
  last = (refl, refl);
  before = (refl, refl);
  from = (refl, refl);
  after = (refl, refl);
  at_first = (refl, refl);
  without = (refl, refl);
}
