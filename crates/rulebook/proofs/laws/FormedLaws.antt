-- A well-formed book, any that is lent, holds the ledger that its words tell: the facts that a close's arithmetic needs. Assumes nothing.
use Rattle.std.specs.Prelude.{◌≡◌, refl, Bool, cond, List, ℕ, zero, ◌+◌, ◌-◌, ◌*◌, ◌≤◌, ◌<◌, ℤ, nat_abs, ltb, length}
use Rattle.std.proofs.Common.{sym, ap, ◌∙◌, add-sub_of_le, arith}
use Rattle.std.proofs.Math.Path.{subst}
use Rattle.std.proofs.Math.Bool.{true, false}
use Rattle.std.proofs.Math.Nat.{one-mul}
use Rattle.std.proofs.Math.Decide.{dec_le}
use Rattle.std.proofs.Math.IntN.{pos}
use Rattle.std.proofs.Math.Dec.{T, leb→le}
use Rattle.integer.specs.Below.{all}
use Rattle.integer.specs.Words.{word}
use Rattle.rulebook.specs.declared.Section.{Section}
use Rattle.rulebook.specs.declared.Terms.{Terms}
use Rattle.rulebook.specs.Units.{last_day}
use Rattle.rulebook.specs.Terms.{InTerms}
use Rattle.rulebook.specs.Sections.{accounts_of}
use Rattle.rulebook.specs.Layout.{width, place, ring, size, interval_length, interval_size, slot, interval_word, row_word, next_day_word, mssl_word, differences_word, balance_word, balance_padding, balance_padding_words, InWindow}
use Rattle.rulebook.specs.BookData.{terms_of, next_day, entries_of}
use Rattle.rulebook.specs.WellFormed.{is_zero, row_fits, interval_fits, interval_blank, interval_at, slot_blank, dated_fits, sum_fits, balance_words_fit, balance_fits, contents_fit, fits, well_formed, day_bound, difference_bound, days_fit}
use Rattle.rulebook.specs.WindowWalk.{window_slot, window_place, place_dated, window_slot_fits}
use Rattle.rulebook.specs.Ledger.{Padding, HoldsLedger, ledger_of}
use Rattle.rulebook.proofs.laws.TestLaws.{and_left, and_right, is_zero_lem, all_at}
use Rattle.rulebook.proofs.laws.RingLaws.{turned, turn_inside}
use Rattle.rulebook.proofs.laws.WalkLaws.{early-place, walk-undated, days-walk}
use Rattle.rulebook.proofs.laws.LedgerLaws.{padding-fits}
use Rattle.rulebook.proofs.laws.KeptLaws.{absent-fits}
use Rattle.rulebook.proofs.laws.FitsLaws.{interval-padding}
use Rattle.rulebook.proofs.laws.HeaderLaws.{HeaderSays, header-says}
use Rattle.rulebook.proofs.laws.FormLaws.{Fit, ring-pos}
use Rattle.rulebook.proofs.laws.SlotLaws.{row_in-interval, closed-there, row_fits-at}

-- ---- a well-formed book holds a ledger, and it fits

module _ (w : List ℤ) (t : T (well_formed w)) where
  pub all_fits : T (fits (terms_of w) w (next_day w))
  unfolding well_formed
  all_fits = t

  header_of : HeaderSays (terms_of w) (next_day w) w
  unfolding fits
  header_of = let x = all_fits in header-says w (search (and_left, and_right) depth 6)

  pub next_of : (word w next_day_word ≡ pos (next_day w)) × ((terms_of w).first ≤ next_day w) × (next_day w ≤ 36525)
  next_of = (header_of.next, header_of.begun, header_of.ended)

  pub opened_of : InTerms (terms_of w)
  opened_of = header_of.terms

  long_of : size (terms_of w) ≤ length w
  unfolding fits
  long_of = let x = all_fits in leb→le (size (terms_of w)) (length w) (search (and_left, and_right) depth 6)

  account-of : (a : ℕ) → a < (terms_of w).accounts → T (balance_words_fit w (next_day w - (terms_of w).first) a)
  unfolding fits contents_fit
  account-of a ha = let x = all_fits in
      all_at (terms_of w).accounts (balance_words_fit w (next_day w - (terms_of w).first)) (search (and_left, and_right) depth 6) a ha

  balance-zeros : (a j : ℕ) → a < (terms_of w).accounts → j < balance_padding_words → word w (balance_padding a j) ≡ pos 0
  unfolding balance_words_fit
  balance-zeros a j ha hj = is_zero_lem (word w (balance_padding a j)) (all_at balance_padding_words (λ j. is_zero (word w (balance_padding a j)))
      (and_right (balance_fits 1 (next_day w - (terms_of w).first) (word w (balance_word a))) (all balance_padding_words (λ j. is_zero (word w (balance_padding a j)))) (account-of a ha)) j hj)

  pub balance-at : (a : ℕ) → a < (terms_of w).accounts → nat_abs (word w (balance_word a)) ≤ (next_day w - (terms_of w).first) * day_bound
  unfolding balance_words_fit sum_fits
  balance-at a ha = let x = leb→le (nat_abs (word w (balance_word a))) (1 * ((next_day w - (terms_of w).first) * day_bound))
      (and_left (balance_fits 1 (next_day w - (terms_of w).first) (word w (balance_word a))) (all balance_padding_words (λ j. is_zero (word w (balance_padding a j)))) (account-of a ha)) in
      rw one-mul at x

  pub mssl-at : nat_abs (word w mssl_word) ≤ (terms_of w).accounts * ((next_day w - (terms_of w).first) * day_bound)
  unfolding fits contents_fit sum_fits
  mssl-at = let x = all_fits in leb→le (nat_abs (word w mssl_word)) ((terms_of w).accounts * ((next_day w - (terms_of w).first) * day_bound)) (search (and_left, and_right) depth 6)

  pub differences-at : nat_abs (word w differences_word) ≤ (terms_of w).accounts * ((next_day w - (terms_of w).first) * difference_bound)
  unfolding fits contents_fit sum_fits
  differences-at = let x = all_fits in
      leb→le (nat_abs (word w differences_word)) ((terms_of w).accounts * ((next_day w - (terms_of w).first) * difference_bound)) (search (and_left, and_right) depth 6)

  -- the days of the window, place by place
  pub walk_of : T (all (ring (terms_of w)) (window_slot_fits (terms_of w) w (next_day w - (terms_of w).first)))
  unfolding fits contents_fit
  walk_of =
      let x = all_fits in
      let d : T (days_fit (terms_of w) w (next_day w)) = search (and_left, and_right) depth 6 in
      days-walk (terms_of w) w (next_day w - (terms_of w).first) opened_of.horizon_from
      (subst (λ (C : ℕ). T (days_fit (terms_of w) w C)) (sym (add-sub_of_le next_of.1)) d)

-- a blank slot's words
blank-at : (o : Terms) (w : List ℤ) (v i m : ℕ) → i < 48 → m < interval_size o → T (slot_blank o w v) → word w (interval_word o v i m) ≡ pos 0
unfolding slot_blank interval_blank interval_size
blank-at o w v i m hi hm x = is_zero_lem (interval_at o w v i m) (all_at (interval_length o.accounts) (λ m. is_zero (interval_at o w v i m)) (all_at 48 (λ i. interval_blank o.accounts (interval_at o w v i)) x i hi) m hm)

-- the slot of each place in the window
module _ (o : Terms) (w : List ℤ) (k : ℕ) (t : T (all (ring o) (window_slot_fits o w k))) (p : zero < ring o) where
  slot-test : (u : ℕ) → u < ring o → T (window_slot_fits o w k u)
  slot-test u hu = all_at (ring o) (window_slot_fits o w k) t u hu

  early-at : (u i m : ℕ) → k + u < o.lag → i < 48 → m < interval_size o → word w (interval_word o (window_slot o k u) i m) ≡ pos 0
  unfolding ring
  early-at u i m h hi hm = blank-at o w (window_slot o k u) i m hi hm (early-place o w k u h (slot-test u (omega arith)))

  padding-at : (v i m : ℕ) → v < ring o → i < 48 → Padding o.accounts m → word w (interval_word o v i m) ≡ pos 0
  unfolding window_slot_fits dated_fits
  padding-at v i m hv hi hm = subst (λ (y : ℕ). word w (interval_word o y i m) ≡ pos 0) (turned o p k v hv)
      (go (place_dated o k (window_place o k v)) (slot-test (window_place o k v) (turn_inside o p k v)))
    where
      go : (a : Bool) → T (cond a (dated_fits o w (ltb (window_place o k v) o.lag) (window_slot o k (window_place o k v))) (slot_blank o w (window_slot o k (window_place o k v))))
          → word w (interval_word o (window_slot o k (window_place o k v)) i m) ≡ pos 0
      go false x = blank-at o w (window_slot o k (window_place o k v)) i m hi (padding-fits o m hm) x
      go true x = is_zero_lem (interval_at o w (window_slot o k (window_place o k v)) i m) (interval-padding o.accounts (ltb (window_place o k v) o.lag) (interval_at o w (window_slot o k (window_place o k v)) i)
          (all_at 48 (λ i. interval_fits o.accounts (ltb (window_place o k v) o.lag) (interval_at o w (window_slot o k (window_place o k v)) i)) x i hi) m hm)

module _ (w : List ℤ) (t : T (well_formed w)) where
  -- a well-formed book holds what its words tell
  pub formed-holds : HoldsLedger (terms_of w) (ledger_of w) w
  formed-holds = record {
    long = long_of w t;
    mark = (header_of w t).mark;
    accounts = (header_of w t).accounts;
    lag = (header_of w t).lag;
    horizon = (header_of w t).horizon;
    first = (header_of w t).first;
    next = (next_of w t).0 ∙ ap pos (omega (arith, (next_of w t).1));
    mssl = refl;
    change = (header_of w t).change;
    differences = refl;
    header_zeros = (header_of w t).zeros;
    balances = λ a x. refl;
    balance_zeros = balance-zeros w t;
    held = λ s a d i j x ha hi hj. refl;
    early = early-at (terms_of w) w (next_day w - (terms_of w).first) (walk_of w t) (ring-pos (terms_of w) (opened_of w t));
    padding = padding-at (terms_of w) w (next_day w - (terms_of w).first) (walk_of w t) (ring-pos (terms_of w) (opened_of w t));
  }

  -- and that fits
  pub formed-fit : Fit (terms_of w) (ledger_of w)
  unfolding row_word
  formed-fit = record {
    rows = λ s a d i hd ha hi. dated-or s a d i hd ha hi (dec_le d last_day);
    undated = λ s a d i j hd x ha hi hj. zeros s a d i j hd x ha hi hj;
    vestings = λ a d i hd x ha hi. (closed-there (terms_of w) w (next_day w - (terms_of w).first) (walk_of w t) d hd (before d x) x a i ha hi).0;
    meters = λ a d i hd x ha hi. (closed-there (terms_of w) w (next_day w - (terms_of w).first) (walk_of w t) d hd (before d x) x a i ha hi).1;
    bounded = balance-at w t;
    mssl = mssl-at w t;
    differences = differences-at w t;
    begun = omega (arith, (next_of w t).1, (next_of w t).2);
  }
    where
      before : (d : ℕ) → d < (terms_of w).first + (next_day w - (terms_of w).first) → d ≤ last_day
      before d x = omega (arith, (next_of w t).1, (next_of w t).2)

      zeros : (s : Section) (a d i j : ℕ) → InWindow (terms_of w) (next_day w - (terms_of w).first) d → last_day < d → a < accounts_of s (terms_of w).accounts → i < 48 → j < width s
          → entries_of (terms_of w) w s a d i j ≡ pos 0
      zeros s a d i j hd x ha hi hj = blank-at (terms_of w) w (slot (terms_of w) d) i (place s a j) hi (row_in-interval (terms_of w) s a j ha hj)
          (walk-undated (terms_of w) w (next_day w - (terms_of w).first) (walk_of w t) d hd x)

      dated-or : (s : Section) (a d i : ℕ) → InWindow (terms_of w) (next_day w - (terms_of w).first) d → a < accounts_of s (terms_of w).accounts → i < 48 → Dec (d ≤ last_day)
          → T (row_fits s (entries_of (terms_of w) w s a d i))
      dated-or s a d i hd ha hi (yes x) = row_fits-at (terms_of w) w (next_day w - (terms_of w).first) (walk_of w t) d hd x s a i ha hi
      dated-or s a d i hd ha hi (no x) = absent-fits s (entries_of (terms_of w) w s a d i) (λ j hj. zeros s a d i j hd (omega arith) ha hi hj)
