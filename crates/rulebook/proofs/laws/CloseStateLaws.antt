-- Each close keeps what is true of a book after a history. Assumes nothing.
use Rattle.std.specs.Prelude.{◌≡◌, ◌⊎◌, Bool, not, List, ◌∷◌, ℤ, ◌+ℤ◌, nat_abs, ltb, length, Option, Some, None, Err}
use Rattle.std.proofs.Math.Path.{refl, sym, ap}
use Rattle.std.proofs.Common.{◌∙◌, subst, inl, inr, mul-suc, add-zero, ltb→lt, nltb→le}
use Rattle.std.proofs.Math.Bool.{true, false, cond}
use Prim.Native.Nat.{ℕ, suc, ◌+◌, ◌-◌, ◌*◌, ◌≤◌, ◌<◌}
use native.Mathlib.Omega.{arith}
use Rattle.std.proofs.Math.IntN.{neg_ℤ, neg_ℤ-+ℤ, +ℤ_idr}
use Rattle.std.proofs.Math.Dec.{T, leb, leb→le, nleb→lt}
use Rattle.integer.specs.Below.{sum_ℤ}
use Rattle.integer.proofs.laws.BelowLaws.{sum_ℤ-cong, sum_ℤ-add}
use Rattle.rulebook.specs.declared.Section.{Section}
use Rattle.rulebook.specs.declared.Section.TheVariants.{Vesting, Meter}
use Rattle.rulebook.specs.declared.Terms.{Terms}
use Rattle.rulebook.specs.declared.CloseError.TheVariants.{Finished, NoRoom, DatumMissing}
use Rattle.rulebook.specs.Units.{last_day, positive}
use Rattle.rulebook.specs.DayAmount.{settles_residual, residual_day, posted_amount, mssl_amount}
use Rattle.rulebook.specs.Terms.{InTerms}
use Rattle.rulebook.specs.Layout.{flag_index, InWindow}
use Rattle.rulebook.specs.BookData.{entries_of, book_data, data_of}
use Rattle.rulebook.specs.WellFormed.{day_bound}
use Rattle.rulebook.specs.File.{Row}
use Rattle.rulebook.specs.Close.{first_missing, settled, closed, posted, posted_to_mssl, day_difference, residual_count, day_closed, Closing, closed_by}
use Rattle.rulebook.specs.Numbers.{of_close}
use Rattle.rulebook.specs.History.{latest, close, Event, closes, in_force, accepted_rows, last_for, formula_balance, formula_amount, formula_difference, formula_differences, residual_counts, returned_differences, closing_day, data_in_force}
use Rattle.rulebook.specs.Demand3.{vesting_of, meter_of}
use Rattle.rulebook.specs.Ledger.{entries_in, entry_of, ledger_after, State}
use Rattle.rulebook.proofs.laws.AmountLaws.{Agree, posted-same, difference-same as data-difference}
use Rattle.rulebook.proofs.laws.RowWordLaws.{flag-inside}
use Rattle.rulebook.proofs.laws.LedgerLaws.{held_same}
use Rattle.rulebook.proofs.laws.KeptLaws.{none_or}
use Rattle.rulebook.proofs.laws.FormLaws.{ring-pos}
use Rattle.rulebook.proofs.laws.SizeLaws.{posted-size}
use Rattle.rulebook.proofs.laws.RangeLaws.{RangedEntries, data_sized}
use Rattle.rulebook.proofs.laws.FigureLaws.{rows-ranged, data_agree, rows_agree}
use Rattle.rulebook.proofs.laws.CloseLaws.{day-held}
use Rattle.rulebook.proofs.laws.SearchLaws.{all_there_lem, some_missing, today, back}
use Rattle.rulebook.proofs.laws.StepLaws.{day-kept}
use Rattle.rulebook.proofs.laws.StateLaws.{unchanged, formed, terms, next}

module _ (o : Terms) (t : InTerms o) (past : List Event) (w : List ℤ) (h : State o past w) where
  -- refused with 9, 10 or 11: nothing changes
  finished : (st : List ℤ) → last_day < closing_day o past → State o (record { call = close st; answer = of_close (Err Finished) } ∷ past) w
  unfolding closes in_force accepted_rows formula_balance formula_differences residual_counts returned_differences latest last_for
  finished st x = unchanged o past w h _ refl refl refl refl (add-zero (residual_counts past)) (+ℤ_idr (returned_differences past)) (λ y. absurd (omega arith), λ m. absurd (omega (arith, m.day_left)))

  cramped : (st : List ℤ) → length st < o.accounts + 1 → State o (record { call = close st; answer = of_close (Err NoRoom) } ∷ past) w
  unfolding closes in_force accepted_rows formula_balance formula_differences residual_counts returned_differences latest last_for
  cramped st x = unchanged o past w h _ refl refl refl refl (add-zero (residual_counts past)) (+ℤ_idr (returned_differences past)) (λ y. absurd (omega arith), λ m. absurd (omega (arith, m.room)))

  missed : (st : List ℤ) (n : ℕ) → closing_day o past ≤ last_day → o.accounts + 1 ≤ length st → first_missing o w (closing_day o past) ≡ Some n
      → State o (record { call = close st; answer = of_close (Err (DatumMissing n)) } ∷ past) w
  unfolding closes in_force accepted_rows formula_balance formula_differences residual_counts returned_differences latest last_for
  missed st n left room e =
      let m = some_missing o t past w h n e in
      unchanged o past w h _ refl refl refl refl (add-zero (residual_counts past)) (+ℤ_idr (returned_differences past)) (λ y. record { day_left = left; room = room; missing = m }, λ y. refl)

  -- accepted
  now : InWindow o (closes past) (closing_day o past)
  now = today o t past w h

  then : T (settles_residual o (closing_day o past)) → InWindow o (closes past) (residual_day o (closing_day o past))
  then = back o t past w h

  ranged : (d : ℕ) → RangedEntries o.accounts (entries_in (in_force past)) d
  ranged = rows-ranged o (closes past) (in_force past) (formula_balance o past) h.kept

  -- the book's figures are those of the rows in force
  book-agrees : (d : ℕ) → InWindow o (closes past) d → Agree o.accounts (book_data o w) (data_of (entries_in (in_force past))) d
  book-agrees d x = data_agree o.accounts (entries_of o w) (entries_in (in_force past)) d (omega arith) (λ s a i j ha hi hj. h.holds.held s a d i j x ha hi hj)
      (λ a i ha hi. rw (h.holds.held Meter a d i (flag_index Meter) x ha hi (flag-inside Meter)) ((ranged d).few a i ha hi))

  rows_same : (a : ℕ) → a < o.accounts → posted_amount o (data_of (entries_in (in_force past))) a (closing_day o past) ≡ formula_amount o past a
  unfolding formula_amount
  rows_same = posted-same o (data_of (entries_in (in_force past))) (data_in_force (in_force past)) (closing_day o past)
      (rows_agree o (closes past) (in_force past) (formula_balance o past) h.kept (closing_day o past))
      (λ x. rows_agree o (closes past) (in_force past) (formula_balance o past) h.kept (residual_day o (closing_day o past)))

  pub amount-same : (a : ℕ) → a < o.accounts → posted o w (closing_day o past) a ≡ formula_amount o past a
  unfolding posted
  amount-same a ha = posted-same o (book_data o w) (data_of (entries_in (in_force past))) (closing_day o past)
      (book-agrees (closing_day o past) now) (λ x. book-agrees (residual_day o (closing_day o past)) (then x)) a ha ∙ rows_same a ha

  pub difference-same : day_difference o w (closing_day o past) ≡ formula_difference o past
  unfolding day_difference formula_difference
  difference-same =
      data-difference o (book_data o w) (data_of (entries_in (in_force past))) (closing_day o past)
      (book-agrees (closing_day o past) now) (λ x. book-agrees (residual_day o (closing_day o past)) (then x))
      ∙ data-difference o (data_of (entries_in (in_force past))) (data_in_force (in_force past)) (closing_day o past)
      (rows_agree o (closes past) (in_force past) (formula_balance o past) h.kept (closing_day o past))
      (λ x. rows_agree o (closes past) (in_force past) (formula_balance o past) h.kept (residual_day o (closing_day o past)))

  amount-size : (a : ℕ) → a < o.accounts → nat_abs (formula_amount o past a) ≤ day_bound
  amount-size a ha = subst (λ (x : ℤ). nat_abs x ≤ day_bound) (rows_same a ha)
      (posted-size o (data_of (entries_in (in_force past))) (closing_day o past)
      (data_sized o.accounts (entries_in (in_force past)) (closing_day o past) (ranged (closing_day o past)))
      (λ x. data_sized o.accounts (entries_in (in_force past)) (residual_day o (closing_day o past)) (ranged (residual_day o (closing_day o past)))) a ha)

  count-grown : residual_counts past + residual_count o (closing_day o past) ≡ 48 * o.accounts * (suc (closes past) - o.lag)
  unfolding residual_count settles_residual
  count-grown = rw h.counted (go (leb (o.first + o.lag) (closing_day o past)) refl)
    where
      go : (b : Bool) → leb (o.first + o.lag) (closing_day o past) ≡ b
          → 48 * o.accounts * (closes past - o.lag) + cond b (48 * o.accounts) 0 ≡ 48 * o.accounts * (suc (closes past) - o.lag)
      go true e =
          let x = leb→le (o.first + o.lag) (closing_day o past) (subst T (sym e) tt) in
          let y : suc (closes past) - o.lag ≡ suc (closes past - o.lag) = omega arith in
          rw y (sym (mul-suc (48 * o.accounts) (closes past - o.lag)))
      go false e =
          let x = nleb→lt (o.first + o.lag) (closing_day o past) (subst (λ (b : Bool). T (not b)) (sym e) tt) in
          let y : suc (closes past) - o.lag ≡ 0 = omega arith in
          let z : closes past - o.lag ≡ 0 = omega arith in
          rw (y, z) (add-zero (48 * o.accounts * 0))

  unsent : (s : Section) (a : ℕ) → in_force past s a (o.first + closes past + o.horizon) ≡ None
  unsent s a = go (none_or (in_force past s a (o.first + closes past + o.horizon)))
    where
      go : (in_force past s a (o.first + closes past + o.horizon) ≡ None) ⊎ ((r : Row) × (in_force past s a (o.first + closes past + o.horizon) ≡ Some r))
          → in_force past s a (o.first + closes past + o.horizon) ≡ None
      go (inl x) = x
      go (inr x) = absurd (omega (arith, h.kept.ahead s a (o.first + closes past + o.horizon) x.0 x.1))

  mssl-grown : neg_ℤ (sum_ℤ o.accounts (formula_balance o past)) +ℤ posted_to_mssl o w (closing_day o past) ≡ neg_ℤ (sum_ℤ o.accounts (λ a. formula_balance o past a +ℤ formula_amount o past a))
  unfolding posted_to_mssl posted mssl_amount
  mssl-grown =
      ap (λ (x : ℤ). neg_ℤ (sum_ℤ o.accounts (formula_balance o past)) +ℤ neg_ℤ x) (sum_ℤ-cong o.accounts (posted o w (closing_day o past)) (formula_amount o past) amount-same)
      ∙ sym (neg_ℤ-+ℤ (sum_ℤ o.accounts (formula_balance o past)) (sum_ℤ o.accounts (formula_amount o past)))
      ∙ ap neg_ℤ (sum_ℤ-add o.accounts (formula_balance o past) (formula_amount o past))

  accepted-close : (st : List ℤ) → closing_day o past ≤ last_day → first_missing o w (closing_day o past) ≡ None
      → State o (record { call = close st; answer = of_close (settled o w (closing_day o past) st None).answer } ∷ past) (day_closed o w (closing_day o past))
  unfolding closes in_force accepted_rows formula_balance formula_differences residual_counts returned_differences latest last_for settled
  accepted-close st left e =
      let all = all_there_lem o t past w h e in
      record {
        holds = held_same refl (λ s a d i j. refl) (λ a ha. ap (λ (x : ℤ). formula_balance o past a +ℤ x) (amount-same a ha)) mssl-grown (ap (λ (x : ℤ). formula_differences o past +ℤ x) difference-same)
            (day-held o (ring-pos o t) (ledger_after o past) w h.holds
            (λ s a i j. ap (λ (x : Option Row). entry_of x i j) (unsent s a)));
        kept = day-kept o (closes past) (in_force past) (formula_balance o past) (formula_amount o past) h.kept left
            (λ a ha. all Vesting a (closing_day o past) (vesting_of ha)) (λ a ha. all Meter a (closing_day o past) (meter_of ha)) amount-size;
        counted = count-grown;
        returned = rw (h.returned, difference-same) refl;
        reported = ((λ y. absurd (omega arith), λ m. absurd (all m.missing.section m.missing.account m.missing.day m.missing.needed m.missing.absent)), h.reported);
      }

  close-done : (st : List ℤ) → (x : Option ℕ) → first_missing o w (closing_day o past) ≡ x → closing_day o past ≤ last_day → o.accounts + 1 ≤ length st
      → State o (record { call = close st; answer = of_close (settled o w (closing_day o past) st x).answer } ∷ past) (settled o w (closing_day o past) st x).words
  unfolding settled
  close-done st None e left room = accepted-close st left e
  close-done st (Some n) e left room = missed st n left room e

  -- what a close answers and leaves
  pub close-is : (st : List ℤ) → closed w st ≡ closed_by o w (closing_day o past) st true (ltb last_day (closing_day o past)) (ltb (length st) (o.accounts + 1)) (first_missing o w (closing_day o past))
  unfolding closed
  close-is st = rw (formed o t past w h, terms o t past w h, next o t past w h, ap positive h.holds.accounts) refl

  pub close-step : (st : List ℤ) → State o (record { call = close st; answer = of_close (closed w st).answer } ∷ past) (closed w st).words
  close-step st =
      subst (λ (r : Closing). State o (record { call = close st; answer = of_close r.answer } ∷ past) r.words) (sym (close-is st))
      (go (ltb last_day (closing_day o past)) (ltb (length st) (o.accounts + 1)) refl refl)
    where
      inner : Bool → Bool → Closing
      inner a b = closed_by o w (closing_day o past) st true a b (first_missing o w (closing_day o past))

      go : (a b : Bool) → ltb last_day (closing_day o past) ≡ a → ltb (length st) (o.accounts + 1) ≡ b → State o (record { call = close st; answer = of_close (inner a b).answer } ∷ past) (inner a b).words
      go true b x y = finished st (ltb→lt last_day (closing_day o past) (subst T (sym x) tt))
      go false true x y = cramped st (ltb→lt (length st) (o.accounts + 1) (subst T (sym y) tt))
      go false false x y = close-done st (first_missing o w (closing_day o past)) refl
          (nltb→le last_day (closing_day o past) (subst (λ (b : Bool). T (not b)) (sym x) tt)) (nltb→le (length st) (o.accounts + 1) (subst (λ (b : Bool). T (not b)) (sym y) tt))
