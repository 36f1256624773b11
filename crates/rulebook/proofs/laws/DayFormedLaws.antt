-- A slot passes its test exactly if its words are well formed in document 01's figures. Assumes nothing.
use Rattle.std.specs.Prelude.{◌≡◌, ◌≢◌, Bool, true, false, not, List, ℕ, ◌+◌, ◌*◌, ◌<◌, ltb, ℤ, pos}
use Rattle.std.proofs.Common.{sym, ap, ◌∙◌, subst, arith, ltb→lt, lt→ltb}
use Rattle.std.proofs.Math.Dec.{T}
use Rattle.integer.specs.Below.{fold}
use Rattle.rulebook.specs.declared.Section.{Section}
use Rattle.rulebook.specs.declared.Section.TheVariants.{Vesting, Meter, Residual, Ncc}
use Rattle.rulebook.specs.declared.Terms.{Terms}
use Rattle.rulebook.specs.Sections.{accounts_of}
use Rattle.rulebook.specs.Layout.{account_table, interval_table, account_place, place, base, interval_size, slot, interval_word}
use Rattle.rulebook.specs.WellFormed.{is_zero, row_fits, padding_zero, word_of_row, rows_there, account_fits, ncc_fits, interval_fits, interval_blank, slot_blank, dated_fits, day_fits}
use Rattle.rulebook.specs.FormedBook.{IntervalFormed, slot_word, DayFormed, DaysFormed}
use Rattle.rulebook.specs.Ledger.{Padding, of_interval, of_account}
use Rattle.rulebook.proofs.laws.TestLaws.{and_both, all_yes, all_at, is_zero_lem, zero-yes}
use Rattle.rulebook.proofs.laws.WindowLaws.{DaysFit}
use Rattle.rulebook.proofs.laws.IndexLaws.{place-run}
use Rattle.rulebook.proofs.laws.FitsLaws.{row_same, account-yes, interval-yes, interval-own, interval-padding, interval-row, interval-there}
use Rattle.rulebook.proofs.laws.RowFormedLaws.{vesting-says, meter-says, says-vesting, says-meter, residual-says, says-residual, ncc-says, says-ncc}

not_not : (b : Bool) → T (not b) → T b → ⊥
not_not true x y = x
not_not false x y = y

no_zero : (z : ℤ) → z ≢ pos 0 → T (not (is_zero z))
no_zero z h = go (is_zero z) (λ x. h (is_zero_lem z x))
  where
    go : (b : Bool) → (T b → ⊥) → T (not b)
    go true f = f tt
    go false f = tt

-- an account's two flags
vesting-flag : (a : ℕ) → place Vesting a 0 ≡ 4 + 24 * a
vesting-flag a = omega arith

meter-flag : (a : ℕ) → place Meter a 0 ≡ 13 + 24 * a
meter-flag a = omega arith

-- ---- An interval's words

module _ (n : ℕ) (closed : Bool) (f : ℕ → ℤ) where
  -- a row's words, by the index of its first
  row_words_lem : (s : Section) (a first : ℕ) → place s a 0 ≡ first → row_fits s (λ j. f (place s a j)) ≡ row_fits s (λ j. f (first + j))
  row_words_lem s a first e = row_same s (λ j. f (place s a j)) (λ j. f (first + j)) (λ j h. ap f (omega (arith, place-run s a j h)))

  ncc-words : row_fits Ncc (word_of_row f Ncc) ≡ row_fits Ncc f
  ncc-words = row_same Ncc (word_of_row f Ncc) f (λ j h. ap f (omega (arith, place-run Ncc 0 j h)))

  -- an account's last word
  last_word : (a : ℕ) → f (account_place a 23) ≡ f (27 + 24 * a)
  last_word a = ap f (omega arith)

  module _ (t : T (interval_fits n closed f)) where
    row_at : (s : Section) (a first : ℕ) → place s a 0 ≡ first → a < accounts_of s n → T (row_fits s (λ j. f (first + j)))
    row_at s a first e h = subst T (row_words_lem s a first e) (interval-row n closed f t s a h)

    interval-says : IntervalFormed n f
    interval-says = record {
      ncc = ncc-says f (subst T ncc-words (interval-own n closed f t).1);
      padding = (zeros 2 (of_interval 2 (omega arith) tt), zeros 3 (of_interval 3 (omega arith) tt));
      vesting = λ a h. vesting-says (λ j. f (4 + 24 * a + j)) (row_at Vesting a (4 + 24 * a) (omega arith) h);
      meter = λ a h. meter-says (λ j. f (13 + 24 * a + j)) (row_at Meter a (13 + 24 * a) (omega arith) h);
      residual = λ a h. residual-says (λ j. f (22 + 24 * a + j)) (row_at Residual a (22 + 24 * a) (omega arith) h);
      last = λ a h. sym (last_word a) ∙ zeros (account_place a 23) (of_account a 23 h (omega arith) tt);
    }
      where
        zeros : (m : ℕ) → Padding n m → f m ≡ pos 0
        zeros m x = is_zero_lem (f m) (interval-padding n closed f t m x)

    closed-says : T closed → (a : ℕ) → a < n → (f (4 + 24 * a) ≢ pos 0) × (f (13 + 24 * a) ≢ pos 0)
    closed-says c a h =
        let x = interval-there n closed f t c a h in
        ((λ e. not_not (is_zero (f (place Vesting a 0))) x.0 (zero-yes (ap f (vesting-flag a) ∙ e))), (λ e. not_not (is_zero (f (place Meter a 0))) x.1 (zero-yes (ap f (meter-flag a) ∙ e))))

  module _ (h : IntervalFormed n f) (there : T closed → (a : ℕ) → a < n → (f (4 + 24 * a) ≢ pos 0) × (f (13 + 24 * a) ≢ pos 0)) where
    row_from_lem : (s : Section) (a first : ℕ) → place s a 0 ≡ first → T (row_fits s (λ j. f (first + j))) → T (row_fits s (λ j. f (place s a j)))
    row_from_lem s a first e x = subst T (sym (row_words_lem s a first e)) x

    says_there : (a : ℕ) → a < n → T closed → T (rows_there (λ q. f (account_place a q)))
    unfolding rows_there
    says_there a l c = and_both (not (is_zero (f (place Vesting a 0)))) (not (is_zero (f (place Meter a 0))))
        (no_zero (f (place Vesting a 0)) (λ e. (there c a l).0 (ap f (sym (vesting-flag a)) ∙ e))) (no_zero (f (place Meter a 0)) (λ e. (there c a l).1 (ap f (sym (meter-flag a)) ∙ e)))

    says-account : (a : ℕ) → a < n → T (account_fits closed (λ q. f (account_place a q)))
    says-account a l =
        let p : T (padding_zero account_table (λ q. f (account_place a q))) = unfold padding_zero fold in zero-yes (last_word a ∙ h.last a l) in
        account-yes closed (λ q. f (account_place a q)) p
        (row_from_lem Vesting a (4 + 24 * a) (omega arith) (says-vesting (λ j. f (4 + 24 * a + j)) (h.vesting a l)))
        (row_from_lem Meter a (13 + 24 * a) (omega arith) (says-meter (λ j. f (13 + 24 * a + j)) (h.meter a l)))
        (row_from_lem Residual a (22 + 24 * a) (omega arith) (says-residual (λ j. f (22 + 24 * a + j)) (h.residual a l)))
        (says_there a l)

    says-own : T (ncc_fits f)
    unfolding ncc_fits
    says-own = and_both (padding_zero interval_table f) (row_fits Ncc (word_of_row f Ncc))
        (unfold padding_zero fold in and_both (is_zero (f 2)) (is_zero (f 3)) (zero-yes h.padding.0) (zero-yes h.padding.1))
        (subst T (sym ncc-words) (says-ncc f h.ncc))

    says-interval : T (interval_fits n closed f)
    says-interval = interval-yes n closed f says-own says-account

-- ---- Days

module _ (o : Terms) (w : List ℤ) where
  -- `slot_word` has the index of `interval_at` in document 01's figures
  pub day-says : (C d : ℕ) → T (day_fits o w C d) → DayFormed o w C d
  unfolding day_fits dated_fits interval_word base interval_size
  day-says C d x =
      let each : (i : ℕ) → i < 48 → T (interval_fits o.accounts (ltb d C) (slot_word o w (slot o d) i)) = all_at 48 (λ i. interval_fits o.accounts (ltb d C) (slot_word o w (slot o d) i)) x in
      record {
        each = λ i h. interval-says o.accounts (ltb d C) (slot_word o w (slot o d) i) (each i h);
        closed = λ l i a h. closed-says o.accounts (ltb d C) (slot_word o w (slot o d) i) (each i h) (lt→ltb d C l) a;
      }

  pub says-day : (C d : ℕ) → DayFormed o w C d → T (day_fits o w C d)
  unfolding day_fits dated_fits interval_word base interval_size
  says-day C d h = all_yes 48 (λ i. interval_fits o.accounts (ltb d C) (slot_word o w (slot o d) i))
      (λ i l. says-interval o.accounts (ltb d C) (slot_word o w (slot o d) i) (h.each i l) (λ c a k. h.closed (ltb→lt d C c) i a l k))

  blank-says : (v : ℕ) → T (slot_blank o w v) → (i m : ℕ) → i < 48 → m < 4 + 24 * o.accounts → slot_word o w v i m ≡ pos 0
  unfolding slot_blank interval_blank interval_word base interval_size
  blank-says v x i m h k = is_zero_lem (slot_word o w v i m) (all_at (4 + 24 * o.accounts) (λ n. is_zero (slot_word o w v i n)) (all_at 48 (λ i. interval_blank o.accounts (slot_word o w v i)) x i h) m k)

  says-blank : (v : ℕ) → ((i m : ℕ) → i < 48 → m < 4 + 24 * o.accounts → slot_word o w v i m ≡ pos 0) → T (slot_blank o w v)
  unfolding slot_blank interval_blank interval_word base interval_size
  says-blank v f = all_yes 48 (λ i. interval_blank o.accounts (slot_word o w v i)) (λ i h. all_yes (4 + 24 * o.accounts) (λ n. is_zero (slot_word o w v i n)) (λ m k. zero-yes (f i m h k)))

  pub days-say : (C : ℕ) → DaysFit o w C → DaysFormed o w C
  days-say C h = record { each = λ d x. day-says C d (h.each d x); others = λ v l none. blank-says v (h.others v l none) }

  pub say_days : (C : ℕ) → DaysFormed o w C → DaysFit o w C
  say_days C h = record { each = λ d x. says-day C d (h.each d x); others = λ v l none. says-blank v (h.others v l none) }
