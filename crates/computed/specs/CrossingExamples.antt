-- Document 02, P2: a list of calls that crosses X = 9,498, with two accounts and L = 2, its files read byte by byte. Computed. Assumes nothing.
use Rattle.std.specs.Prelude.{◌≡◌, refl, cond, List, [], ◌∷◌, ◌++◌, ℕ, zero, suc, ◌≤◌, ◌<◌, eqb, ℤ, pos, replicate, Some, None}
use Rattle.std.proofs.Common.{◌∙◌, arith}
use Rattle.integer.specs.Integer.{with_sign, twos_complement}
use Rattle.integer.specs.Below.{fold, or_else, tabulate, turns}
use Rattle.rulebook.specs.declared.Terms.{Terms}
use Rattle.rulebook.specs.declared.Section.{Section}
use Rattle.rulebook.specs.declared.Section.TheVariants.{Vesting, Meter, Residual, Ncc}
use Rattle.rulebook.specs.Units.{nearest}
use Rattle.rulebook.specs.ReferencePrice.{average, reference_price}
use Rattle.rulebook.specs.Shares.{share, share_of, second_share, second_share_of, edition_share}
use Rattle.rulebook.specs.Tranches.{tranche1, tranche2}
use Rattle.rulebook.specs.DayAmount.{reference_price_of, vested_quantity, tender_amount, vesting_amount, share_amount, hedge_total, residual_load, rvq, residual_amount, settles_residual, residual_day, edition_of, interval_amount, exact_amount, posted_amount, mssl_amount, mssl_exact, rounding_difference}
use Rattle.rulebook.specs.Layout.{base, ring, interval_size, slot, interval_word, row_word}
use Rattle.rulebook.specs.File.{Row, num, value_at, row_end, row_pos, section_end, section_rows, file_rows, number_of, figure_of}
use Rattle.rulebook.specs.Close.{searched, residual_count}
use Rattle.rulebook.specs.History.{Event, closes, closing_day, RowsInForce, latest, last_for, accepted_rows, in_force, count_in, data_in_force, formula_amount, formula_difference}
use Rattle.rulebook.specs.Companion.{first_lacking, close_told}
use Rattle.rulebook.proofs.laws.AmountLaws.{SameFigures, Agree, posted-same, difference-same as data-difference}
use Rattle.rulebook.proofs.examples.Examples.{zeros}
use Rattle.rulebook.proofs.examples.HistoryExamples.{vesting, meter, taken, words, closed_day, Accepted}

abbrev terms : Terms
terms = record { accounts = 2; lag = 2; horizon = 1; first = 9497; change = 9498 }

-- ---- The files: one row each; a day is told by its lower byte, 19 to 1C in hex for 9,497 to 9,500

abbrev vesting_file : ℕ → ℕ → List ℕ
vesting_file a day = 1 ∷ 0 ∷ vesting a day ++ zeros 6

abbrev meter_file : ℕ → ℕ → List ℕ
meter_file a day = zeros 2 ++ (1 ∷ 0 ∷ meter a day ++ zeros 4)

-- in interval 0: UEGQ 1, RVP2 100,400 cents per MWh, or hex 018830
abbrev spare_file : ℕ → ℕ → List ℕ
spare_file a day = zeros 4 ++ (1 ∷ 0 ∷ a ∷ day ∷ 0x25 ∷ 1 ∷ zeros 11 ++ (0x30 ∷ 0x88 ∷ 0x01 ∷ 0x00 ∷ zeros 752) ++ zeros 2)

-- a load of 1 kWh
abbrev load_file : ℕ → List ℕ
load_file day = zeros 6 ++ (1 ∷ 0 ∷ day ∷ 0x25 ∷ 1 ∷ zeros 191)

-- ---- The calls, the latest first

-- both accounts' vesting and meter rows of a day, and residual and NCC rows
abbrev with_day : ℕ → List Event → List Event
with_day day past = taken (meter_file 1 day) ∷ taken (meter_file 0 day) ∷ taken (vesting_file 1 day) ∷ taken (vesting_file 0 day) ∷ past

abbrev with_spare : ℕ → List Event → List Event
with_spare day past = taken (load_file day) ∷ taken (spare_file 1 day) ∷ taken (spare_file 0 day) ∷ past

-- two days closed, and all that the third needs: D = 9,499 is past X, its residual day 9,497 is not
abbrev third : List Event
third = with_spare 0x19 (with_day 0x1B (closed_day 9498 0 ∷ with_day 0x1A (closed_day 9497 0 ∷ with_day 0x19 [])))

-- the third closed too, and all that the fourth needs: D = 9,500 settles X itself
abbrev fourth : List Event
fourth = with_spare 0x1A (with_day 0x1C (closed_day 9499 96 ∷ third))

pub record Crossing : Type 0 where
  pub third_closes : Accepted terms third (words 3) 9499 96
  pub fourth_closes : Accepted terms fourth (words 3) 9500 96
  -- before X the odd kWh is dropped, from X on account 1 has it
  pub before_change : (formula_amount terms third 0 ≡ pos 0) × (formula_amount terms third 1 ≡ pos 0)
  pub from_change : (formula_amount terms fourth 0 ≡ pos 0) × (formula_amount terms fourth 1 ≡ pos 100)
  -- the 100,400 thousandths of account 1 leave 400
  pub differences : (formula_difference terms third ≡ pos 0) × (formula_difference terms fourth ≡ pos 400)

-- ---- The rows in force, of which the amounts are computed

abbrev row : Section → ℕ → ℕ → ℕ → List ℤ → Row
row s a d count numbers = record { section = s; account = a; day = d; count = count; numbers = numbers }

-- r's residual and NCC rows, and each day's vesting and meter rows
abbrev force : ℕ → RowsInForce
force r Vesting a d = Some (row Vesting a d 0 (replicate 96 (pos 0)))
force r Meter a d = Some (row Meter a d 1 (replicate 96 (pos 0)))
force r Residual a d = cond (eqb d r) (Some (row Residual a d 0 (pos 1 ∷ pos 0 ∷ pos 0 ∷ pos 100400 ∷ replicate 188 (pos 0)))) None
force r Ncc a d = cond (eqb d r) (Some (row Ncc a d 0 (pos 1 ∷ replicate 47 (pos 0)))) None

-- those that the history has of a day
pub record Same (past : List Event) (r d : ℕ) : Type 0 where
  pub vestings : (in_force past Vesting 0 d ≡ force r Vesting 0 d) × (in_force past Vesting 1 d ≡ force r Vesting 1 d)
  pub meters : (in_force past Meter 0 d ≡ force r Meter 0 d) × (in_force past Meter 1 d ≡ force r Meter 1 d)
  pub residuals : (in_force past Residual 0 d ≡ force r Residual 0 d) × (in_force past Residual 1 d ≡ force r Residual 1 d)
  pub ncc : in_force past Ncc 0 d ≡ force r Ncc 0 d

-- one account's three rows
figures-same : (rows rows' : RowsInForce) (a d i : ℕ) → rows Vesting a d ≡ rows' Vesting a d → rows Meter a d ≡ rows' Meter a d → rows Residual a d ≡ rows' Residual a d
    → count_in (rows' Meter a d) ≤ 4 → SameFigures ((data_in_force rows).account a d i) ((data_in_force rows').account a d i)
figures-same rows rows' a d i v m r few = record {
  bvq = rw v refl;
  bvp = rw v refl;
  tvq = λ t h. rw v refl;
  tvp = λ t h. rw v refl;
  facilities = rw m refl;
  few = rw m few;
  mep = λ f h. rw m refl;
  ieq = λ f h. rw m refl;
  uegq = rw r refl;
  mq = rw r refl;
  rvp1 = rw r refl;
  rvp2 = rw r refl;
}

days-same : (past : List Event) (r d : ℕ) → Same past r d → Agree 2 (data_in_force (in_force past)) (data_in_force (force r)) d
days-same past r d h = record { accounts = each; loads = λ i l. rw h.ncc refl }
  where
    each : (a i : ℕ) → a < 2 → i < 48 → SameFigures ((data_in_force (in_force past)).account a d i) ((data_in_force (force r)).account a d i)
    each zero i l k = figures-same (in_force past) (force r) 0 d i h.vestings.0 h.meters.0 h.residuals.0 (omega arith)
    each (suc zero) i l k = figures-same (in_force past) (force r) 1 d i h.vestings.1 h.meters.1 h.residuals.1 (omega arith)
    each (suc (suc a)) i l k = absurd (omega arith)

amount-same : (past : List Event) (r : ℕ) → Same past r (closing_day terms past) → Same past r (residual_day terms (closing_day terms past)) → (a : ℕ) → a < 2
    → formula_amount terms past a ≡ posted_amount terms (data_in_force (force r)) a (closing_day terms past)
unfolding formula_amount
amount-same past r now then a l = posted-same terms (data_in_force (in_force past)) (data_in_force (force r)) (closing_day terms past)
    (days-same past r _ now) (λ t. days-same past r _ then) a l

difference-same : (past : List Event) (r : ℕ) → Same past r (closing_day terms past) → Same past r (residual_day terms (closing_day terms past))
    → formula_difference terms past ≡ rounding_difference terms (data_in_force (force r)) (closing_day terms past)
unfolding formula_difference
difference-same past r now then = data-difference terms (data_in_force (in_force past)) (data_in_force (force r)) (closing_day terms past) (days-same past r _ now) (λ t. days-same past r _ then)

third-rows : Same third 9497 9499 × Same third 9497 9497
unfolding in_force latest last_for accepted_rows file_rows section_rows tabulate num row_end row_pos section_end turns value_at twos_complement
third-rows = (
  record { vestings = (refl, refl); meters = (refl, refl); residuals = (refl, refl); ncc = refl },
  record { vestings = (refl, refl); meters = (refl, refl); residuals = (refl, refl); ncc = refl },
)

fourth-rows : Same fourth 9498 9500 × Same fourth 9498 9498
unfolding in_force latest last_for accepted_rows file_rows section_rows tabulate num row_end row_pos section_end turns value_at twos_complement
fourth-rows = (
  record { vestings = (refl, refl); meters = (refl, refl); residuals = (refl, refl); ncc = refl },
  record { vestings = (refl, refl); meters = (refl, refl); residuals = (refl, refl); ncc = refl },
)

-- ---- All

pub crossing : Crossing
unfolding closes rounding_difference mssl_amount mssl_exact posted_amount exact_amount interval_amount tender_amount vesting_amount vested_quantity hedge_total residual_load rvq share share_of second_share second_share_of edition_share share_amount residual_amount tranche1 tranche2 settles_residual edition_of reference_price_of reference_price average nearest with_sign fold number_of figure_of in_force latest last_for accepted_rows file_rows section_rows tabulate num row_end row_pos section_end turns value_at twos_complement close_told residual_count first_lacking searched or_else base ring interval_size slot interval_word row_word
crossing = record {
  third_closes = refl;
  fourth_closes = refl;
  before_change = (
    amount-same third 9497 third-rows.0 third-rows.1 0 (omega arith) ∙ refl,
    amount-same third 9497 third-rows.0 third-rows.1 1 (omega arith) ∙ refl,
  );
  from_change = (
    amount-same fourth 9498 fourth-rows.0 fourth-rows.1 0 (omega arith) ∙ refl,
    amount-same fourth 9498 fourth-rows.0 fourth-rows.1 1 (omega arith) ∙ refl,
  );
  differences = (difference-same third 9497 third-rows.0 third-rows.1 ∙ refl, difference-same fourth 9498 fourth-rows.0 fourth-rows.1 ∙ refl);
}
