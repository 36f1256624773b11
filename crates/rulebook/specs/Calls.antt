-- What the calls on no book return, and the words that they leave: reference price, shares, tranches, profiles. Assumes nothing.
use Rattle.std.specs.Prelude.{◌≡◌, Bool, true, cond, ◌&&◌, List, ℕ, ◌≤◌, ◌<◌, leb, eqb, ℤ, pos, nat_abs, length}
use Rattle.integer.specs.Integer.{minus}
use Rattle.integer.specs.Below.{all}
use Rattle.integer.specs.Words.{word, filled}
use Rattle.rulebook.specs.declared.Kind.TheVariants.{Quantity, Injection, Price}
use Rattle.rulebook.specs.declared.Kind.{Kind}
use Rattle.rulebook.specs.declared.Edition.{Edition}
use Rattle.rulebook.specs.declared.Edition.TheVariants.{First, Second}
use Rattle.rulebook.specs.Units.{in_range, between, as_quantity, intervals, positive}
use Rattle.rulebook.specs.ReferencePrice.{most_facilities, reference_price}
use Rattle.rulebook.specs.Shares.{most_accounts, least_residual, most_residual, share, second_share, edition_share, spare_of}
use Rattle.rulebook.specs.Tranches.{tranche1, tranche2}
use Rattle.rulebook.specs.Profile.{most_day_kwh, most_contracted, keeps_limits, total_possible}
use Rattle.rulebook.specs.declared.PriceReturned.{PriceReturned}
use Rattle.rulebook.specs.declared.TrancheReturned.{TrancheReturned}
use Rattle.rulebook.specs.declared.ProfileReturned.{ProfileReturned}
use Rattle.rulebook.specs.Numbers.{accepted, outside_range, output_too_short, price_accepted, price_refused, ShareReturned, tranche_accepted, tranche_refused, total_impossible, checked, profile_accepted, profile_refused}

-- every word of a list is in the range of its kind
unfoldable pub all_in_range : Kind → List ℤ → Bool
all_in_range kind xs = all (length xs) (λ i. in_range kind (word xs i))

-- the words of a list of quantities, as quantities
abbrev pub quantities_in : List ℤ → ℕ → ℕ
quantities_in xs i = as_quantity (word xs i)

-- ---- Reference price: the lists of MEP and IEQ

unfoldable pub price_input : List ℤ → List ℤ → Bool
price_input mep ieq =
    (leb 1 (length mep) && leb (length mep) most_facilities) && (eqb (length ieq) (length mep) && (all_in_range Price mep && all_in_range Injection ieq))

-- what accepted lists satisfy
pub record PricesIn (mep ieq : List ℤ) : Type 0 where
  pub some : 1 ≤ length mep
  pub few : length mep ≤ most_facilities
  pub same : length ieq ≡ length mep
  pub prices : all_in_range Price mep ≡ true
  pub injections : all_in_range Injection ieq ≡ true

unfoldable pub price_call : List ℤ → List ℤ → PriceReturned
price_call mep ieq =
    cond (price_input mep ieq) (price_accepted (reference_price (length mep) (word mep) (word ieq))) (price_refused outside_range)

-- ---- Shares: R, the accounts' UEGQ, the lent output

unfoldable pub share_input : ℤ → List ℤ → Bool
share_input r uegq =
    between (minus least_residual) (pos most_residual) r && ((leb 1 (length uegq) && leb (length uegq) most_accounts) && all_in_range Quantity uegq)

-- what an accepted R and list satisfy
pub record SharesIn (r : ℤ) (uegq : List ℤ) : Type 0 where
  pub residual : nat_abs r ≤ least_residual
  pub few : length uegq ≤ most_accounts
  pub quantities : all_in_range Quantity uegq ≡ true

-- S of the list
abbrev pub spare_in : List ℤ → ℕ
spare_in uegq = spare_of (length uegq) (quantities_in uegq)

-- one word an account, by edition
unfoldable pub share_word : Edition → ℤ → List ℤ → ℕ → ℤ
share_word e r uegq a = pos (edition_share e r (length uegq) (quantities_in uegq) a)

-- both editions are callable, alike but for that word
unfoldable pub share_call : Edition → ℤ → List ℤ → List ℤ → ShareReturned
share_call e r uegq output =
    cond (share_input r uegq)
    (cond (leb (length uegq) (length output)) (record { number = accepted; output = filled (length uegq) (share_word e r uegq) output })
    (record { number = output_too_short; output = output }))
    (record { number = outside_range; output = output })

-- what an accepted call writes: each account's share, the first call by the first edition, the second by the second
pub record SharesCalled (r : ℤ) (uegq output : List ℤ) : Type 0 where
  pub first : (share_call First r uegq output).number ≡ accepted → (a : ℕ) → a < length uegq
      → word (share_call First r uegq output).output a ≡ pos (share r (length uegq) (quantities_in uegq) a)
  pub second : (share_call Second r uegq output).number ≡ accepted → (a : ℕ) → a < length uegq
      → word (share_call Second r uegq output).output a ≡ pos (second_share r (length uegq) (quantities_in uegq) a)

-- ---- Tranches: RVQ, BVQ, MQ

unfoldable pub tranche_input : ℤ → ℤ → ℤ → Bool
tranche_input rvq bvq mq = in_range Quantity rvq && (in_range Quantity bvq && in_range Quantity mq)

unfoldable pub tranche_call : ℤ → ℤ → ℤ → TrancheReturned
tranche_call rvq bvq mq =
    cond (tranche_input rvq bvq mq)
    (tranche_accepted (pos (tranche1 (as_quantity rvq) (as_quantity bvq) (as_quantity mq))) (pos (tranche2 (as_quantity rvq) (as_quantity bvq) (as_quantity mq))))
    (tranche_refused outside_range)

-- ---- Profiles (document 02, P1): 48 quantities, the day's total T, and D

-- the list's length, T and D are in range
abbrev pub profile_terms : ℕ → ℤ → ℤ → Bool
profile_terms count t d = eqb count intervals && (between (pos 0) (pos most_day_kwh) t && between (pos 0) (pos most_contracted) d)

unfoldable pub profile_input : List ℤ → ℤ → ℤ → Bool
profile_input profile t d = profile_terms (length profile) t d && all_in_range Quantity profile

-- what is returned, by whether the input is in range
unfoldable pub profile_told : Bool → List ℤ → ℕ → ℕ → ProfileReturned
profile_told given profile t d =
    checked given (profile_refused outside_range)
    (checked (total_possible t d) (profile_refused total_impossible)
    (profile_accepted (keeps_limits t d (quantities_in profile))))

unfoldable pub profile_call : List ℤ → ℤ → ℤ → ProfileReturned
profile_call profile t d = profile_told (profile_input profile t d) profile (positive t) (positive d)
