-- Document 01, "Numbers returned" and "Figures": the calls on no book, at the ends of their ranges. Computed. Assumes nothing.
use Rattle.std.specs.Prelude.{◌≡◌, refl, List, [], ◌∷◌, ℕ, ℤ, pos, replicate, Ok, Err}
use Rattle.integer.specs.Integer.{minus, with_sign}
use Rattle.integer.specs.Below.{fold, tabulate}
use Rattle.rulebook.specs.declared.Edition.TheVariants.{First, Second}
use Rattle.rulebook.specs.declared.RuleError.TheVariants.{OutsideRange, OutputTooShort}
use Rattle.rulebook.specs.Units.{nearest}
use Rattle.rulebook.specs.ReferencePrice.{average, reference_price}
use Rattle.rulebook.specs.Shares.{share, share_of, second_share, second_share_of, edition_share}
use Rattle.rulebook.specs.Tranches.{tranche1, tranche2}
use Rattle.rulebook.specs.Numbers.{price_returned, share_number, tranche_returned}
use Rattle.rulebook.specs.Calls.{all_in_range, price_input, price_call, share_input, share_word, share_call, tranche_input, tranche_call}

-- n words of output
abbrev lent : ℕ → List ℤ
lent n = replicate n (pos 7)

abbrev three : List ℤ
three = pos 1 ∷ pos 2 ∷ pos 3 ∷ []

-- R, the UEGQ, the words of output; the number, the words after; here both editions are alike
abbrev Shares : ℤ → List ℤ → ℕ → ℕ → List ℤ → Type 0
Shares r uegq n number after =
    (share_call First r uegq (lent n) ≡ record { number = number; output = after }) × (share_call Second r uegq (lent n) ≡ record { number = number; output = after })

-- MEP, IEQ; the number, V
abbrev Price : List ℤ → List ℤ → ℕ → ℤ → Type 0
Price mep ieq number v = price_call mep ieq ≡ record { number = number; price = v }

-- one facility
abbrev PriceOne : ℤ → ℤ → ℕ → ℤ → Type 0
PriceOne mep ieq = Price (mep ∷ []) (ieq ∷ [])

-- RVQ, BVQ, MQ; the number, the tranches
abbrev Tranches : ℤ → ℤ → ℤ → ℕ → ℤ → ℤ → Type 0
Tranches rvq bvq mq number t u = tranche_call rvq bvq mq ≡ record { number = number; first = t; second = u }

pub record CallsTold : Type 0 where
  -- what each answer returns
  pub share_numbers : (share_number (Ok tt) ≡ 0) × (share_number (Err OutsideRange) ≡ 1) × (share_number (Err OutputTooShort) ≡ 10)
  pub priced : (v : ℤ) → price_returned (Ok v) ≡ record { number = 0; price = v }
  pub price_refused : price_returned (Err OutsideRange) ≡ record { number = 1; price = pos 0 }
  pub split : (t u : ℤ) → tranche_returned (Ok (record { first = t; second = u })) ≡ record { number = 0; first = t; second = u }
  pub tranche_refused : tranche_returned (Err OutsideRange) ≡ record { number = 1; first = pos 0; second = pos 0 }
  -- R is from −1,280,000,000 to 1,000,000,000
  pub residual_least : Shares (minus 1280000000) three 3 0 (pos 0 ∷ pos 0 ∷ pos 0 ∷ [])
  pub residual_below : Shares (minus 1280000001) three 3 1 (lent 3)
  pub residual_most : Shares (pos 1000000000) three 3 0 three
  pub residual_above : Shares (pos 1000000001) three 3 1 (lent 3)
  -- 1 to 32 accounts
  pub no_account : Shares (pos 1) [] 3 1 (lent 3)
  pub many_accounts : Shares (pos 32) (replicate 32 (pos 1)) 32 0 (replicate 32 (pos 1))
  pub too_many_accounts : Shares (pos 33) (replicate 33 (pos 1)) 33 1 (lent 33)
  -- UEGQ from 0 to 10,000,000
  pub uegq_ends : Shares (pos 20000000) (pos 0 ∷ pos 10000000 ∷ []) 2 0 (pos 0 ∷ pos 10000000 ∷ [])
  pub uegq_below : Shares (pos 1) (pos 0 ∷ minus 1 ∷ []) 2 1 (lent 2)
  pub uegq_above : Shares (pos 1) (pos 0 ∷ pos 10000001 ∷ []) 2 1 (lent 2)
  -- output one short: 10, and 1 comes first; of a longer one the last words are kept
  pub no_room : Shares (pos 1) three 2 10 (lent 2)
  pub range_first : Shares (pos 1000000001) three 2 1 (lent 2)
  pub uegq_first : Shares (pos 1) (pos 0 ∷ pos 10000001 ∷ []) 1 1 (lent 1)
  pub beyond : Shares (pos 300) (pos 100 ∷ pos 200 ∷ pos 300 ∷ []) 5 0 (pos 50 ∷ pos 100 ∷ pos 150 ∷ pos 7 ∷ pos 7 ∷ [])
  -- 1 to 4 facilities, as many IEQ as MEP
  pub no_facility : Price [] [] 1 (pos 0)
  pub four_facilities : Price (replicate 4 (pos 9)) (replicate 4 (pos 1)) 0 (pos 9)
  pub five_facilities : Price (replicate 5 (pos 9)) (replicate 5 (pos 1)) 1 (pos 0)
  pub fewer_injections : Price (pos 9 ∷ pos 9 ∷ []) (pos 1 ∷ []) 1 (pos 0)
  pub more_injections : Price (pos 9 ∷ []) (pos 1 ∷ pos 1 ∷ []) 1 (pos 0)
  -- MEP is at most 1,000,000 either way, IEQ 10,000,000
  pub mep_ends : PriceOne (pos 1000000) (pos 10000000) 0 (pos 1000000) × PriceOne (minus 1000000) (minus 10000000) 0 (minus 1000000)
  pub mep_outside : PriceOne (pos 1000001) (pos 1) 1 (pos 0) × PriceOne (minus 1000001) (pos 1) 1 (pos 0)
  pub ieq_outside : PriceOne (pos 9) (pos 10000001) 1 (pos 0) × PriceOne (pos 9) (minus 10000001) 1 (pos 0)
  pub weighted : Price (pos 10000 ∷ pos 10001 ∷ []) (pos 3 ∷ pos 1 ∷ []) 0 (pos 10000)
  pub unweighted : Price (minus 101 ∷ minus 104 ∷ []) (minus 5 ∷ pos 0 ∷ []) 0 (minus 103)
  -- RVQ, BVQ and MQ from 0 to 10,000,000
  pub nothing_split : Tranches (pos 0) (pos 0) (pos 0) 0 (pos 0) (pos 0)
  pub most_split : Tranches (pos 10000000) (pos 10000000) (pos 10000000) 0 (pos 0) (pos 10000000)
  pub rvq_outside : Tranches (minus 1) (pos 0) (pos 0) 1 (pos 0) (pos 0) × Tranches (pos 10000001) (pos 0) (pos 0) 1 (pos 0) (pos 0)
  pub bvq_outside : Tranches (pos 1) (minus 1) (pos 0) 1 (pos 0) (pos 0) × Tranches (pos 1) (pos 10000001) (pos 0) 1 (pos 0) (pos 0)
  pub mq_outside : Tranches (pos 1) (pos 0) (minus 1) 1 (pos 0) (pos 0) × Tranches (pos 1) (pos 0) (pos 10000001) 1 (pos 0) (pos 0)
  pub both_tranches : Tranches (pos 150) (pos 400) (pos 500) 0 (pos 100) (pos 50)
  pub second_tranche : Tranches (pos 150) (pos 500) (pos 400) 0 (pos 0) (pos 150)

pub calls_told : CallsTold
unfolding all_in_range price_input price_call share_input share_word share_call tranche_input tranche_call fold tabulate share share_of second_share second_share_of edition_share tranche1 tranche2 reference_price average nearest with_sign
calls_told = record {
  share_numbers = (refl, refl, refl);
  priced = λ v. refl;
  price_refused = refl;
  split = λ t u. refl;
  tranche_refused = refl;
  residual_least = (refl, refl);
  residual_below = (refl, refl);
  residual_most = (refl, refl);
  residual_above = (refl, refl);
  no_account = (refl, refl);
  many_accounts = (refl, refl);
  too_many_accounts = (refl, refl);
  uegq_ends = (refl, refl);
  uegq_below = (refl, refl);
  uegq_above = (refl, refl);
  no_room = (refl, refl);
  range_first = (refl, refl);
  uegq_first = (refl, refl);
  beyond = (refl, refl);
  no_facility = refl;
  four_facilities = refl;
  five_facilities = refl;
  fewer_injections = refl;
  more_injections = refl;
  mep_ends = (refl, refl);
  mep_outside = (refl, refl);
  ieq_outside = (refl, refl);
  weighted = refl;
  unweighted = refl;
  nothing_split = refl;
  most_split = refl;
  rvq_outside = (refl, refl);
  bvq_outside = (refl, refl);
  mq_outside = (refl, refl);
  both_tranches = refl;
  second_tranche = refl;
}
