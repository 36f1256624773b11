-- A close leaves any well-formed book well formed. Assumes nothing.
use Rattle.std.specs.Prelude.{◌≡◌, refl, ◌⊎◌, Bool, true, false, cond, not, List, ℕ, suc, ◌+◌, ◌-◌, ◌*◌, ◌≤◌, ◌<◌, ℤ, pos, nat_abs, T, ltb, length, Option, Some, None}
use Rattle.std.proofs.Common.{sym, ◌∙◌, subst, inl, inr, add-sub_of_le, suc-mul, arith, lt-ltb, le-ltb, nltb→le}
use Rattle.integer.proofs.laws.IntegerLaws.{abs-add, abs_neg}
use Rattle.integer.proofs.laws.BelowLaws.{abs-sum_ℤ}
use Rattle.integer.specs.Words.{word}
use Rattle.rulebook.specs.declared.Section.{Section}
use Rattle.rulebook.specs.declared.Section.TheVariants.{Vesting, Meter}
use Rattle.rulebook.specs.declared.Terms.{Terms}
use Rattle.rulebook.specs.Units.{last_day}
use Rattle.rulebook.specs.DayAmount.{mssl_amount}
use Rattle.rulebook.specs.Layout.{flag_index, flag_word, balance_word, mssl_word, differences_word, InWindow}
use Rattle.rulebook.specs.BookData.{Entries, entries_of, book_data, terms_of, next_day}
use Rattle.rulebook.specs.WellFormed.{is_zero, row_fits, well_formed, day_bound, difference_bound}
use Rattle.rulebook.specs.Close.{closed_by, closed, settled, first_missing, posted, posted_to_mssl, day_difference, day_closed}
use Rattle.rulebook.specs.Demand3.{vesting_of, meter_of}
use Rattle.rulebook.specs.Ledger.{Ledger, HoldsLedger}
use Rattle.rulebook.proofs.laws.TestLaws.{below_suc, T-path}
use Rattle.rulebook.proofs.laws.DayAmountLaws.{difference-parts}
use Rattle.rulebook.proofs.laws.SumLaws.{sum-grown}
use Rattle.rulebook.proofs.laws.KeptLaws.{absent-fits}
use Rattle.rulebook.proofs.laws.FitsLaws.{row_same}
use Rattle.rulebook.proofs.laws.FormLaws.{Fit, ring-pos, well_formed_lem}
use Rattle.rulebook.proofs.laws.FormedLaws.{formed-holds, formed-fit, opened_of, next_of}
use Rattle.rulebook.proofs.laws.BookSizeLaws.{close-amount}
use Rattle.rulebook.proofs.laws.CloseLaws.{after_close, day-held}
use Rattle.rulebook.proofs.laws.SearchLaws.{needed-there}

-- the words of a book, and zeros from day last on
abbrev before : Terms → List ℤ → ℕ → Entries
before o w last s a d i j = cond (ltb d last) (entries_of o w s a d i j) (pos 0)

module _ (w : List ℤ) (t : T (well_formed w)) (k : ℕ) (day : (terms_of w).first + k ≡ next_day w) (closes : next_day w - (terms_of w).first ≡ k) (left : next_day w ≤ last_day)
    (complete : first_missing (terms_of w) w (next_day w) ≡ None) where
  abbrev o : Terms
  o = terms_of w

  abbrev last : ℕ
  last = o.first + k + o.horizon

  abbrev old : Ledger
  old = record { closed = k; entries = before o w last; balance = λ a. word w (balance_word a); mssl = word w mssl_word; differences = word w differences_word }

  formed : Fit o (record { closed = k; entries = entries_of o w; balance = λ a. word w (balance_word a); mssl = word w mssl_word; differences = word w differences_word })
  formed = subst (λ (n : ℕ). Fit o (record { closed = n; entries = entries_of o w; balance = λ a. word w (balance_word a); mssl = word w mssl_word; differences = word w differences_word })) closes (formed-fit w t)

  held : HoldsLedger o (record { closed = k; entries = entries_of o w; balance = λ a. word w (balance_word a); mssl = word w mssl_word; differences = word w differences_word }) w
  held = subst (λ (n : ℕ). HoldsLedger o (record { closed = n; entries = entries_of o w; balance = λ a. word w (balance_word a); mssl = word w mssl_word; differences = word w differences_word }) w) closes (formed-holds w t)

  within : (s : Section) (a d i j : ℕ) → d < last → before o w last s a d i j ≡ entries_of o w s a d i j
  within s a d i j h = rw (lt-ltb d last h)

  beyond : (s : Section) (a d i j : ℕ) → last ≤ d → before o w last s a d i j ≡ pos 0
  beyond s a d i j h = rw (le-ltb d last h)

  old-held : HoldsLedger o old w
  old-held = record {
    long = held.long;
    mark = held.mark;
    accounts = held.accounts;
    lag = held.lag;
    horizon = held.horizon;
    first = held.first;
    next = held.next;
    mssl = refl;
    change = held.change;
    differences = refl;
    header_zeros = held.header_zeros;
    balances = λ a x. refl;
    balance_zeros = held.balance_zeros;
    held = λ s a d i j x ha hi hj. sym (within s a d i j x.ahead);
    early = held.early;
    padding = held.padding;
  }

  abbrev new : Ledger
  new = after_close o (ring-pos o (opened_of w t)) old w old-held

  new_held : HoldsLedger o new (day_closed o w (o.first + k))
  new_held = day-held o (ring-pos o (opened_of w t)) old w old-held (λ s a i j. beyond s a last i j (omega arith))

  -- a day of the new window: of the old one, or new
  by_day : (P : Type 0) (d : ℕ) → InWindow o (suc k) d → (d < last → InWindow o k d → P) → (last ≤ d → P) → P
  by_day P d x f g = go (below_suc {i = d} {n = last} (omega arith))
    where
      go : (d < last) ⊎ (d ≡ last) → P
      go (inl y) = f y (omega arith)
      go (inr y) = g (omega arith)

  -- a closed day of the new window: closed before, or D
  flags_there : (s : Section) (a d i : ℕ) → a < o.accounts → InWindow o (suc k) d → d < o.first + suc k → 1 ≤ o.horizon
      → (d < o.first + k → InWindow o k d → T (not (is_zero (entries_of o w s a d i (flag_index s))))) → T (not (is_zero (word w (flag_word o s a (next_day w) i))))
      → T (not (is_zero (before o w last s a d i (flag_index s))))
  flags_there s a d i ha x l hz f g = rw (within s a d i (flag_index s) (omega arith)) (go (below_suc {i = d} {n = o.first + k} (omega arith)))
    where
      go : (d < o.first + k) ⊎ (d ≡ o.first + k) → T (not (is_zero (entries_of o w s a d i (flag_index s))))
      go (inl y) = f y (omega arith)
      go (inr y) = subst (λ (e : ℕ). T (not (is_zero (word w (flag_word o s a e i))))) (sym (y ∙ day)) g

  amount : (a : ℕ) → a < o.accounts → nat_abs (posted o w (o.first + k) a) ≤ day_bound
  unfolding posted
  amount a ha = rw day (close-amount w t left a ha)

  mssl-size : nat_abs (posted_to_mssl o w (o.first + k)) ≤ o.accounts * day_bound
  unfolding posted_to_mssl posted mssl_amount
  mssl-size = rw abs_neg (abs-sum_ℤ o.accounts day_bound (posted o w (o.first + k)) amount)

  new_fit : Fit o new
  new_fit = record {
    rows = λ s a d i x ha hi. by_day (T (row_fits s (before o w last s a d i))) d x
        (λ l y. rw (row_same s (before o w last s a d i) (entries_of o w s a d i) (λ j hj. within s a d i j l)) (formed.rows s a d i y ha hi))
        (λ l. absent-fits s (before o w last s a d i) (λ j hj. beyond s a d i j l));
    undated = λ s a d i j x late ha hi hj. by_day (before o w last s a d i j ≡ pos 0) d x (λ l y. within s a d i j l ∙ formed.undated s a d i j y late ha hi hj) (λ l. beyond s a d i j l);
    vestings = λ a d i x l ha hi. flags_there Vesting a d i ha x l (opened_of w t).horizon_from (λ y z. formed.vestings a d i z y ha hi) (needed-there o w (next_day w) complete Vesting a (next_day w) i (vesting_of ha) hi);
    meters = λ a d i x l ha hi. flags_there Meter a d i ha x l (opened_of w t).horizon_from (λ y z. formed.meters a d i z y ha hi) (needed-there o w (next_day w) complete Meter a (next_day w) i (meter_of ha) hi);
    bounded = λ a ha. omega (arith, abs-add (word w (balance_word a)) (posted o w (o.first + k) a), formed.bounded a ha, amount a ha, suc-mul k day_bound);
    mssl = sum-grown day_bound o.accounts k (word w mssl_word) (posted_to_mssl o w (o.first + k)) formed.mssl mssl-size;
    differences = sum-grown difference_bound o.accounts k (word w differences_word) (day_difference o w (o.first + k)) formed.differences
        (unfold day_difference in (difference-parts o (book_data o w) (o.first + k)).within);
    begun = omega arith;
  }

  pub day-formed : T (well_formed (day_closed o w (next_day w)))
  day-formed = subst (λ (D : ℕ). T (well_formed (day_closed o w D))) day (well_formed_lem o (opened_of w t) new (day_closed o w (o.first + k)) new_held new_fit)

pub closed-formed : (w st : List ℤ) → T (well_formed w) → T (well_formed (closed w st).words)
unfolding closed settled
closed-formed w st t = rw (T-path (well_formed w) t) (go (ltb last_day (next_day w)) (ltb (length st) ((terms_of w).accounts + 1)) refl)
  where
    search : next_day w ≤ last_day → (x : Option ℕ) → first_missing (terms_of w) w (next_day w) ≡ x → T (well_formed (settled (terms_of w) w (next_day w) st x).words)
    search left None e = day-formed w t (next_day w - (terms_of w).first) (add-sub_of_le (next_of w t).1) refl left e
    search left (Some n) e = t

    go : (a b : Bool) → ltb last_day (next_day w) ≡ a
        → T (well_formed (closed_by (terms_of w) w (next_day w) st true a b (first_missing (terms_of w) w (next_day w))).words)
    go true b x = t
    go false true x = t
    go false false x = search (nltb→le last_day (next_day w) (subst (λ (b : Bool). T (not b)) (sym x) tt)) (first_missing (terms_of w) w (next_day w)) refl
