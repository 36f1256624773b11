-- Document 01, "Figures": the starred cases as one list, with document 02's figure of P2, and the theorem that the definitions give each. Assumes nothing.
use Rattle.std.specs.Prelude.{◌≡◌, refl, cond, List, [], ◌∷◌, ℕ, eqb, ℤ, pos, length, get_or}
use Rattle.integer.specs.Integer.{minus, with_sign}
use Rattle.integer.specs.Below.{fold, tabulate, Each}
use Rattle.integer.specs.Words.{word}
use Rattle.rulebook.specs.declared.Terms.{Terms}
use Rattle.rulebook.specs.Units.{nearest, thousandths_per_cent}
use Rattle.rulebook.specs.ReferencePrice.{average, reference_price}
use Rattle.rulebook.specs.Shares.{share, share_of, second_share, second_share_of}
use Rattle.rulebook.specs.Tranches.{tranche1, tranche2}
use Rattle.rulebook.specs.DayAmount.{AccountData, reference_price_of, tender_amount, vesting_amount, settles_residual, interval_amount, exact_amount, posted_amount}

-- ---- Data for examples

abbrev pub quantities : List ℕ → ℕ → ℕ
quantities l n = get_or l n 0

-- BVQ, BVP; TVQ, TVP of the tenders; MEP, IEQ of the facilities; UEGQ, MQ, RVP1, RVP2
abbrev pub account_data : ℕ → ℤ → List ℕ → List ℤ → List ℤ → List ℤ → ℕ → ℕ → ℤ → ℤ → AccountData
account_data bvq bvp tvq tvp mep ieq uegq mq rvp1 rvp2 = record {
  bvq = bvq;
  bvp = bvp;
  tvq = quantities tvq;
  tvp = word tvp;
  facilities = length mep;
  mep = word mep;
  ieq = word ieq;
  uegq = uegq;
  mq = mq;
  rvp1 = rvp1;
  rvp2 = rvp2;
}

-- one facility, nothing else
abbrev pub nothing : AccountData
nothing = account_data 0 (pos 0) [] [] (pos 0 ∷ []) (pos 0 ∷ []) 0 0 (pos 0) (pos 0)

-- N accounts, L = H = 1, first day 9,497
abbrev pub accounts : ℕ → Terms
accounts n = record { accounts = n; lag = 1; horizon = 1; first = 9497; change = 0 }

-- ---- The starred cases

pub data Case : Type 0 where
  -- R, each UEGQ; each share, and by the second edition
  shares : ℤ → List ℕ → List ℕ → Case
  second_shares : ℤ → List ℕ → List ℕ → Case
  -- RVQ, BVQ, MQ; tranche 1, tranche 2
  tranches : ℕ → ℕ → ℕ → ℕ → ℕ → Case
  -- each MEP, each IEQ; V
  price : List ℤ → List ℤ → ℤ → Case
  -- BVP, V, BVQ in one interval of a day; posted cents
  posted : ℤ → ℤ → ℕ → ℤ → Case
  -- a day's sum in thousandths; posted cents
  rounded : ℤ → ℤ → Case

abbrev pub Right : Case → Type 0
Right (shares r uegq q) = tabulate (length uegq) (share r (length uegq) (quantities uegq)) ≡ q
Right (second_shares r uegq q) = tabulate (length uegq) (second_share r (length uegq) (quantities uegq)) ≡ q
Right (tranches rvq bvq mq t u) = (tranche1 rvq bvq mq ≡ t) × (tranche2 rvq bvq mq ≡ u)
Right (price mep ieq v) = reference_price (length mep) (word mep) (word ieq) ≡ v
Right (posted bvp v bvq cents) =
    posted_amount (accounts 1) (record { account = λ a d i. cond (eqb i 0) (account_data bvq bvp [] [] (v ∷ []) (pos 1 ∷ []) 0 0 (pos 0) (pos 0)) nothing; load = λ d i. 0 }) 0 9497
    ≡ cents
Right (rounded sum cents) = nearest sum thousandths_per_cent ≡ cents

abbrev pub starred : List Case
starred =
    shares (pos 300) (100 ∷ 200 ∷ 300 ∷ []) (50 ∷ 100 ∷ 150 ∷ [])
    ∷ shares (pos 2) (1 ∷ 1 ∷ 1 ∷ []) (0 ∷ 0 ∷ 0 ∷ [])
    ∷ second_shares (pos 2) (1 ∷ 1 ∷ 1 ∷ []) (0 ∷ 1 ∷ 1 ∷ [])
    ∷ shares (pos 10) (1 ∷ 2 ∷ 3 ∷ []) (1 ∷ 2 ∷ 3 ∷ [])
    ∷ shares (minus 5) (1 ∷ 2 ∷ 3 ∷ []) (0 ∷ 0 ∷ 0 ∷ [])
    ∷ shares (pos 300) (0 ∷ 0 ∷ 0 ∷ []) (0 ∷ 0 ∷ 0 ∷ [])
    ∷ tranches 150 400 500 100 50
    ∷ tranches 150 500 400 0 150
    ∷ price (pos 10000 ∷ pos 10001 ∷ []) (pos 3 ∷ pos 1 ∷ []) (pos 10000)
    ∷ price (pos 101 ∷ pos 104 ∷ []) (minus 5 ∷ pos 0 ∷ []) (pos 103)
    ∷ price (minus 101 ∷ minus 104 ∷ []) (minus 5 ∷ pos 0 ∷ []) (minus 103)
    ∷ posted (pos 15000) (pos 10000) 400 (pos 2000)
    ∷ rounded (pos 499) (pos 0)
    ∷ rounded (pos 500) (pos 1)
    ∷ rounded (minus 500) (minus 1)
    ∷ []

pub starred-right : Each Right starred
unfolding fold tabulate share share_of second_share second_share_of tranche1 tranche2 reference_price average nearest with_sign posted_amount exact_amount interval_amount settles_residual tender_amount vesting_amount reference_price_of
starred-right = (refl, (refl, (refl, (refl, (refl, (refl, ((refl, refl), ((refl, refl), (refl, (refl, (refl, (refl, (refl, (refl, (refl, tt)))))))))))))))
