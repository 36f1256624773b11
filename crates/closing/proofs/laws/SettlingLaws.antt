-- A book whose next close is accepted: what the code writes is what the rule book says. Assumes nothing.
use Rattle.std.specs.Prelude.{◌≡◌, refl, true, List, ◌∷◌, ◌++◌, ℕ, zero, suc, ◌+◌, ◌-◌, ◌≤◌, ◌<◌, ◌^◌, T, ℤ, pos, neg_ℤ, ◌+ℤ◌, length, take, drop, replicate, None}
use Rattle.std.proofs.Common.{sym, ◌∙◌, subst, zero-add, arith}
use Rattle.std.proofs.Math.Path.{ap}
use Rattle.std.proofs.Math.Numerals.{add-one}
use Rattle.std.proofs.Math.IntN.{nat_abs}
use Rattle.std.proofs.Math.ListN.{set}
use Rattle.std.proofs.Math.Seq.{get_or-set_other}
use Rattle.integer.specs.Below.{sum_ℤ, tabulate}
use Rattle.integer.proofs.laws.BelowLaws.{sum_ℤ-cong}
use Rattle.integer.specs.Words.{word, filled, on_part}
use Rattle.rulebook.specs.declared.Terms.{Terms}
use Rattle.rulebook.specs.Units.{last_day}
use Rattle.rulebook.specs.Terms.{InTerms}
use Rattle.rulebook.specs.DayAmount.{settles_residual, residual_day, exact_amount, posted_amount, mssl_amount}
use Rattle.rulebook.specs.Layout.{stored, size, base, mssl_word, differences_word, next_day_word, balance_word, slot_length, slot_start}
use Rattle.rulebook.specs.BookData.{book_data, terms_of, next_day}
use Rattle.rulebook.specs.WellFormed.{well_formed, day_bound}
use Rattle.rulebook.proofs.laws.BookSizeLaws.{close-amount, balance-room, mssl-room, difference-room}
use Rattle.rulebook.specs.Close.{first_missing, posted, posted_to_mssl, day_difference, balances_grown_by, sums_grown, slot_blanked, day_closed, statement_written}
use Rattle.rulebook.proofs.laws.DayAmountLaws.{difference-parts}
use Rattle.rulebook.proofs.laws.StoreLaws.{stored-filled, stored-part}
use Rattle.rulebook.proofs.laws.ListLaws.{tabulate-cong}
use Rattle.rulebook.proofs.laws.CloseLaws.{grown-cong}
use Rattle.rulebook.proofs.laws.BeyondLaws.{statement-beyond, statement-amount, statement-mssl}
use Rattle.rulebook.proofs.laws.WordLaws.{length-stored, stored-in}
use Rattle.amounts.specs.declared.total.Posted.{Posted}
use Rattle.amounts.specs.Total.{posted_of}
use Rattle.amounts.specs.Day.{SlotRanged, slot_posted, slot_cents, slot_difference}
use Rattle.closing.specs.Slots.{slot_words, settled_then}
use Rattle.closing.proofs.laws.SlotsLaws.{slot-sized}
use Rattle.closing.proofs.laws.PostedLaws.{slot-posted_same}
use Rattle.closing.proofs.laws.SlotRangedLaws.{today-ranged, settled-ranged}
use Rattle.closing.specs.Written.{Small, Settling, StatementOf, BalancesRoom, with_mssl}
use Rattle.closing.proofs.laws.WrittenLaws.{grown-header}

-- what a slice filled with zeros holds
zeros : (n : ℕ) → replicate n (pos 0) ≡ tabulate n (λ m. pos 0)
unfolding tabulate
zeros zero = refl
zeros (suc n) = ap (λ (xs : List ℤ). pos 0 ∷ xs) (zeros n)

-- r's slot, lent to be filled so
pub slot-blanked : (o : Terms) (D : ℕ) (v : List ℤ) {a n : ℕ} → InTerms o → size o ≤ length v → settles_residual o D ≡ true → a ≡ slot_start o (residual_day o D) → n ≡ slot_length o.accounts
    → on_part a (a + n) (λ p. replicate (length p) (pos 0)) v ≡ slot_blanked o D v
unfolding slot_blanked
slot-blanked o D v {a} {n} h l due start words =
    rw (due, start, words, zeros (length (take (slot_start o (residual_day o D) + slot_length o.accounts - slot_start o (residual_day o D)) (drop (slot_start o (residual_day o D)) v))))
    (sym (stored-part v (slot_start o (residual_day o D)) (slot_length o.accounts) (λ m. pos 0) (omega (arith, slot-sized o (residual_day o D) h))))

module _ (w : List ℤ) (o : Terms) (D : ℕ) (s : Settling w o D) where
  formed : T (well_formed w)
  formed = subst T (sym s.book.formed) tt

  -- what holds of the book's own terms and next day
  at : (P : Terms → ℕ → Type 0) → P (terms_of w) (next_day w) → P o D
  at P p = subst (λ (x : Terms). P x D) s.book.terms (subst (P (terms_of w)) s.book.next p)

  left : next_day w ≤ last_day
  left = omega (arith, s.book.next, s.left)

  -- the slots that it reads are in range
  pub today_ranged : SlotRanged o.accounts (slot_words o w D)
  today_ranged = at (λ (o : Terms) (D : ℕ). first_missing o w D ≡ None → SlotRanged o.accounts (slot_words o w D)) (today-ranged w formed left) s.none

  pub settled_ranged : settles_residual o D ≡ true → SlotRanged o.accounts (slot_words o w (residual_day o D))
  settled_ranged e = at (λ (o : Terms) (D : ℕ). T (settles_residual o D) → SlotRanged o.accounts (slot_words o w (residual_day o D))) (settled-ranged w formed left) (subst T (sym e) tt)

  -- what is posted, and what it leaves, are the rule book's
  settling : (a : ℕ) → a < o.accounts → slot_posted o.accounts (slot_words o w D) (settled_then o w D) a ≡ posted_of (record { thousandths = exact_amount o (book_data o w) a D })
  settling =
      at (λ (o : Terms) (D : ℕ). (a : ℕ) → a < o.accounts
      → slot_posted o.accounts (slot_words o w D) (settled_then o w D) a ≡ posted_of (record { thousandths = exact_amount o (book_data o w) a D }))
      (slot-posted_same w formed left)

  settling_posted : (a : ℕ) → a < o.accounts → slot_cents o.accounts (slot_words o w D) (settled_then o w D) a ≡ posted o w D a
  unfolding posted posted_amount
  settling_posted a h = ap (λ (p : Posted). p.cents) (settling a h)

  pub settling_difference : sum_ℤ o.accounts (slot_difference o.accounts (slot_words o w D) (settled_then o w D)) ≡ day_difference o w D
  unfolding day_difference posted_amount
  settling_difference = sum_ℤ-cong o.accounts _ _ (λ a h. ap (λ (p : Posted). p.difference) (settling a h)) ∙ sym (difference-parts o (book_data o w) D).accounts

  sized : (a : ℕ) → a < o.accounts → nat_abs (posted o w D a) ≤ day_bound
  unfolding posted
  sized = at (λ (o : Terms) (D : ℕ). (a : ℕ) → a < o.accounts → nat_abs (posted_amount o (book_data o w) a D) ≤ day_bound) (close-amount w formed left)

  -- ---- The statement

  module _ (st : List ℤ) (room : o.accounts + 1 ≤ length st) where
    -- the amounts written
    abbrev amounts : List ℤ
    amounts = filled o.accounts (slot_cents o.accounts (slot_words o w D) (settled_then o w D)) st

    amounts-same : amounts ≡ stored st 0 o.accounts (posted o w D)
    amounts-same = ap (λ (xs : List ℤ). xs ++ drop o.accounts st) (tabulate-cong o.accounts _ _ settling_posted) ∙ sym (stored-filled st o.accounts (posted o w D) (omega arith))

    stored_at : (a : ℕ) → a < o.accounts → word (stored st 0 o.accounts (posted o w D)) a ≡ posted o w D a
    stored_at a h = subst (λ (m : ℕ). word (stored st 0 o.accounts (posted o w D)) m ≡ posted o w D a) (zero-add a) (stored-in st 0 o.accounts (posted o w D) a (omega arith) h)

    amount-at : (a : ℕ) → a < o.accounts → word amounts a ≡ posted o w D a
    amount-at a h = ap (λ (xs : List ℤ). word xs a) amounts-same ∙ stored_at a h

    length-amounts : length amounts ≡ length st
    length-amounts = ap length amounts-same ∙ length-stored st 0 o.accounts (posted o w D)

    pub amounts-small : Small o.accounts amounts
    amounts-small = record { room = omega (arith, length-amounts); each = λ a h. rw (amount-at a h) (sized a h) }

    pub amounts-room : o.accounts < length amounts
    amounts-room = omega (arith, length-amounts)

    pub statement-same : with_mssl o.accounts amounts ≡ statement_written o w D st
    unfolding with_mssl statement_written posted_to_mssl mssl_amount posted
    statement-same = rw amounts-same (ap (λ (z : ℤ). set (stored st 0 o.accounts (posted o w D)) o.accounts (neg_ℤ z)) sums)
      where
        sums : sum_ℤ o.accounts (word (stored st 0 o.accounts (posted o w D))) ≡ sum_ℤ o.accounts (posted o w D)
        sums = sum_ℤ-cong o.accounts (word (stored st 0 o.accounts (posted o w D))) (posted o w D) stored_at

    pub statement-of : StatementOf w o D (statement_written o w D st)
    statement-of = record {
      room = omega (arith, (statement-beyond o w D st).long);
      accounts = statement-amount o w D st room;
      mssl = statement-mssl o w D st room;
    }

  -- ---- The book

  module _ (st : List ℤ) (h : StatementOf w o D st) where
    abbrev Balances : Terms → ℕ → Type 0
    Balances o D = (a : ℕ) → a < o.accounts → nat_abs (word w (balance_word a)) + nat_abs (posted_amount o (book_data o w) a D) ≤ 129734400000000000

    abbrev Mssl : Terms → ℕ → Type 0
    Mssl o D = nat_abs (word w mssl_word) + nat_abs (mssl_amount o (book_data o w) D) ≤ 4151500800000000000

    balances-inside : balance_word o.accounts ≤ length w
    unfolding size base
    balances-inside = omega (arith, s.book.room)

    pub balances-room : BalancesRoom o.accounts w st
    unfolding posted
    balances-room = record {
      book = balances-inside;
      statement = omega (arith, h.room);
      each = λ a l. rw (h.accounts a l) (omega (arith, at Balances (balance-room w formed left) a l));
    }

    -- the MSSL's balance, untouched so far, has room too
    pub credit-room : nat_abs (word (balances_grown_by w (word st) o.accounts) mssl_word) + nat_abs (word st o.accounts) < 2 ^ 63
    unfolding posted_to_mssl
    credit-room = rw (grown-header w (word st) o.accounts mssl_word (omega arith), h.mssl) (omega (arith, at Mssl (mssl-room w formed left)))

    abbrev Differences : Terms → ℕ → Type 0
    Differences o D = nat_abs (word w differences_word) + nat_abs (day_difference o w D) ≤ 432448000

    -- the book with the MSSL's balance grown; the differences' sum, untouched so far, has room too
    abbrev pub credited : List ℤ
    credited = set (balances_grown_by w (word st) o.accounts) mssl_word (word (balances_grown_by w (word st) o.accounts) mssl_word +ℤ word st o.accounts)

    untouched : word credited differences_word ≡ word w differences_word
    untouched = get_or-set_other (balances_grown_by w (word st) o.accounts) mssl_word differences_word _ (pos 0) (omega arith) ∙ grown-header w (word st) o.accounts differences_word (omega arith)

    pub rounding-room : nat_abs (word credited differences_word) + nat_abs (day_difference o w D) < 2 ^ 63
    rounding-room = rw untouched (omega (arith, at Differences (difference-room w formed left)))

    pub book-same : slot_blanked o D (set (set credited differences_word (word credited differences_word +ℤ day_difference o w D)) next_day_word (pos (D + 1))) ≡ day_closed o w D
    unfolding day_closed sums_grown
    book-same = ap (slot_blanked o D) (rw (untouched, grown-header w (word st) o.accounts mssl_word (omega arith), h.mssl, grown-cong w (word st) (posted o w D) o.accounts h.accounts, add-one D))
