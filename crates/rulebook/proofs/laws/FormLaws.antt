-- A book that holds a fitting ledger is well formed. Assumes nothing.
use Rattle.std.specs.Prelude.{◌≡◌, not, List, ℕ, zero, suc, ◌+◌, ◌-◌, ◌*◌, ◌≤◌, ◌<◌, ℤ, nat_abs, ltb}
use Rattle.std.proofs.Common.{◌∙◌, mod-lt, arith}
use Rattle.std.proofs.Math.Logic.{⊎_elim}
use Rattle.std.proofs.Math.Nat.{add-sub_cancel_left}
use Rattle.std.proofs.Math.IntN.{pos}
use Rattle.std.proofs.Math.Dec.{T, ltb→lt}
use Rattle.integer.specs.Words.{word}
use Rattle.rulebook.specs.declared.Section.{Section}
use Rattle.rulebook.specs.declared.Section.TheVariants.{Vesting, Meter, Residual, Ncc}
use Rattle.rulebook.specs.declared.Terms.{Terms}
use Rattle.rulebook.specs.Units.{last_day}
use Rattle.rulebook.specs.Terms.{InTerms}
use Rattle.rulebook.specs.Sections.{accounts_of}
use Rattle.rulebook.specs.Layout.{width, place, interval_length, interval_size, ring, slot, interval_word, row_word, interval_table, account_table, interval_words, account_words, account_place, flag_index, InWindow}
use Rattle.rulebook.specs.BookData.{terms_of, next_day}
use Rattle.rulebook.specs.WellFormed.{is_zero, row_fits, padding_zero, rows_there, account_fits, ncc_fits, interval_fits, interval_blank, interval_at, slot_blank, dated_fits, well_formed, day_bound, difference_bound}
use Rattle.rulebook.specs.WindowWalk.{window_slot, place_dated, window_slot_fits}
use Rattle.rulebook.specs.Ledger.{Ledger, HoldsLedger, Padding, of_interval, of_account}
use Rattle.rulebook.proofs.laws.TestLaws.{all_yes, cond_yes, and_both, zero-yes}
use Rattle.rulebook.proofs.laws.RowWordLaws.{flag-inside}
use Rattle.rulebook.proofs.laws.RingLaws.{ring-some, place-slot, place-day}
use Rattle.rulebook.proofs.laws.WalkLaws.{dated-says, undated-says, walk-days}
use Rattle.rulebook.proofs.laws.CoverLaws.{Cover, of_row, of_padding, cover}
use Rattle.rulebook.proofs.laws.FitsLaws.{row_same, padding-yes, account-yes, interval-yes}
use Rattle.rulebook.proofs.laws.HeaderLaws.{HeaderSays, terms-said, next_said, book-passes}

pub ring-pos : (o : Terms) → InTerms o → zero < ring o
ring-pos o t = ring-some o t.horizon_from

-- a ledger whose figures and balances may stand in a well-formed book
pub record Fit (o : Terms) (b : Ledger) : Type 0 where
  pub rows : (s : Section) (a d i : ℕ) → InWindow o b.closed d → a < accounts_of s o.accounts → i < 48 → T (row_fits s (b.entries s a d i))
  pub undated : (s : Section) (a d i j : ℕ) → InWindow o b.closed d → last_day < d → a < accounts_of s o.accounts → i < 48 → j < width s → b.entries s a d i j ≡ pos 0
  pub vestings : (a d i : ℕ) → InWindow o b.closed d → d < o.first + b.closed → a < o.accounts → i < 48 → T (not (is_zero (b.entries Vesting a d i (flag_index Vesting))))
  pub meters : (a d i : ℕ) → InWindow o b.closed d → d < o.first + b.closed → a < o.accounts → i < 48 → T (not (is_zero (b.entries Meter a d i (flag_index Meter))))
  pub bounded : (a : ℕ) → a < o.accounts → nat_abs (b.balance a) ≤ b.closed * day_bound
  pub mssl : nat_abs b.mssl ≤ o.accounts * (b.closed * day_bound)
  pub differences : nat_abs b.differences ≤ o.accounts * (b.closed * difference_bound)
  pub begun : o.first + b.closed ≤ suc last_day

module _ (o : Terms) (t : InTerms o) (b : Ledger) (w : List ℤ) (h : HoldsLedger o b w) (q : Fit o b) where
  abbrev k : ℕ
  k = b.closed

  ring-more : zero < ring o
  ring-more = ring-pos o t

  -- a slot of a window's day
  module _ (u : ℕ) (hu : u < ring o) (late : o.lag ≤ k + u) where
    day : ℕ
    day = o.first + (k + u - o.lag)

    day-slot : window_slot o k u ≡ slot o day
    unfolding day
    day-slot = place-slot o k u hu late

    day-window : InWindow o k day
    unfolding day
    day-window = place-day o k u hu late

    slot_row : (s : Section) (a i j : ℕ) → a < accounts_of s o.accounts → i < 48 → j < width s
        → interval_at o w (window_slot o k u) i (place s a j) ≡ b.entries s a day i j
    unfolding row_word
    slot_row s a i j ha hi hj = rw day-slot (h.held s a day i j day-window ha hi hj)

    slot-padding : (i m : ℕ) → i < 48 → Padding o.accounts m → T (is_zero (interval_at o w (window_slot o k u) i m))
    unfolding window_slot
    slot-padding i m hi hm = zero-yes (h.padding (window_slot o k u) i m (mod-lt _ ring-more) hi hm)

    section-fits : (s : Section) (a i : ℕ) → a < accounts_of s o.accounts → i < 48 → T (row_fits s (λ j. interval_at o w (window_slot o k u) i (place s a j)))
    section-fits s a i ha hi = rw (row_same s (λ j. interval_at o w (window_slot o k u) i (place s a j)) (b.entries s a day i) (λ j hj. slot_row s a i j ha hi hj)) (q.rows s a day i day-window ha hi)

    rows-there : (a i : ℕ) → a < o.accounts → i < 48 → T (ltb u o.lag) → T (rows_there (λ q. interval_at o w (window_slot o k u) i (account_place a q)))
    unfolding rows_there day
    rows-there a i ha hi x =
        let l = ltb→lt u o.lag x in
        let v : T (not (is_zero (interval_at o w (window_slot o k u) i (place Vesting a (flag_index Vesting)))))
        = rw (slot_row Vesting a i (flag_index Vesting) ha hi (flag-inside Vesting)) (q.vestings a day i day-window (omega arith) ha hi) in
        let m : T (not (is_zero (interval_at o w (window_slot o k u) i (place Meter a (flag_index Meter)))))
        = rw (slot_row Meter a i (flag_index Meter) ha hi (flag-inside Meter)) (q.meters a day i day-window (omega arith) ha hi) in
        search and_both

    cell-fits : (a i : ℕ) → a < o.accounts → i < 48 → T (account_fits (ltb u o.lag) (λ q. interval_at o w (window_slot o k u) i (account_place a q)))
    cell-fits a i ha hi = account-yes (ltb u o.lag) (λ q. interval_at o w (window_slot o k u) i (account_place a q))
        (padding-yes account_table (λ q. interval_at o w (window_slot o k u) i (account_place a q)) (λ q hq t. slot-padding i (account_place a q) hi (of_account a q ha hq t)))
        (section-fits Vesting a i ha hi) (section-fits Meter a i ha hi) (section-fits Residual a i ha hi) (rows-there a i ha hi)

    own-fits : (i : ℕ) → i < 48 → T (ncc_fits (interval_at o w (window_slot o k u) i))
    unfolding ncc_fits
    own-fits i hi = and_both (padding_zero interval_table (interval_at o w (window_slot o k u) i)) (row_fits Ncc (λ j. interval_at o w (window_slot o k u) i (place Ncc 0 j)))
        (padding-yes interval_table (interval_at o w (window_slot o k u) i) (λ q hq t. slot-padding i q hi (of_interval q hq t))) (section-fits Ncc 0 i (omega arith) hi)

    dated-fits : T (dated_fits o w (ltb u o.lag) (window_slot o k u))
    unfolding dated_fits
    dated-fits = all_yes 48 (λ i. interval_fits o.accounts (ltb u o.lag) (interval_at o w (window_slot o k u) i))
        (λ i hi. interval-yes o.accounts (ltb u o.lag) (interval_at o w (window_slot o k u) i) (own-fits i hi) (λ a ha. cell-fits a i ha hi))

    past-blank : last_day < day → (i m : ℕ) → i < 48 → m < interval_words + account_words * o.accounts → word w (interval_word o (window_slot o k u) i m) ≡ pos 0
    unfolding window_slot
    past-blank x i m hi hm = go (cover o.accounts m hm)
      where
        go : Cover o.accounts m → word w (interval_word o (window_slot o k u) i m) ≡ pos 0
        go (of_row s a j ha hj e) = rw e (slot_row s a i j ha hi hj ∙ q.undated s a day i j day-window x ha hi hj)
        go (of_padding m' c e) = rw e (h.padding (window_slot o k u) i m' (mod-lt _ ring-more) hi c)

  blank-yes : (u : ℕ) → ((i m : ℕ) → i < 48 → m < interval_size o → word w (interval_word o (window_slot o k u) i m) ≡ pos 0) → T (slot_blank o w (window_slot o k u))
  unfolding slot_blank interval_blank interval_size
  blank-yes u f = all_yes 48 _ (λ i hi. all_yes (interval_length o.accounts) _ (λ m hm. zero-yes (f i m hi hm)))

  window-fits : (u : ℕ) → u < ring o → T (window_slot_fits o w k u)
  unfolding window_slot_fits interval_size day
  window-fits u hu = cond_yes (place_dated o k u) (dated_fits o w (ltb u o.lag) (window_slot o k u)) (slot_blank o w (window_slot o k u))
      (λ x. dated-fits u hu (dated-says o k u x).0)
      (λ x. ⊎_elim (λ y. blank-yes u (λ i m hi hm. h.early u i m y hi hm)) (λ y. blank-yes u (λ i m hi hm. past-blank u hu y.0 y.1 i m hi hm)) (undated-says o k u x))

  header-held : HeaderSays o (o.first + k) w
  header-held = record {
    mark = h.mark;
    accounts = h.accounts;
    lag = h.lag;
    horizon = h.horizon;
    first = h.first;
    next = h.next;
    change = h.change;
    zeros = h.header_zeros;
    terms = t;
    begun = omega arith;
    ended = q.begun;
  }

  pub terms-of : terms_of w ≡ o
  terms-of = terms-said o (o.first + k) w header-held

  pub next_day_lem : next_day w ≡ o.first + k
  next_day_lem = next_said o (o.first + k) w header-held

  pub well_formed_lem : T (well_formed w)
  well_formed_lem =
      let n : o.first + k - o.first ≡ k = add-sub_cancel_left o.first k in
      book-passes o (o.first + k) w header-held h.long (rw (h.mssl, n) q.mssl) (rw (h.differences, n) q.differences) (λ a ha. rw (h.balances a ha, n) (q.bounded a ha)) h.balance_zeros
      (walk-days o w k t.horizon_from (all_yes (ring o) (window_slot_fits o w k) window-fits))
