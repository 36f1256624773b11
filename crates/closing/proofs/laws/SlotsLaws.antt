-- Slots lie in a well-formed book, and their words are the book's. Assumes nothing.
use Rattle.std.specs.Prelude.{◌≡◌, refl, Bool, true, false, cond, List, ℕ, ◌+◌, ◌*◌, ◌≤◌, ◌<◌, T, leb, ℤ, pos, length, Some, None}
use Rattle.std.proofs.Math.Path.{sym, ap}
use Rattle.std.proofs.Common.{◌∙◌, arith, leb→le, subst, option_map}
use Rattle.std.proofs.lemmas.Option.{none-some, same_Some}
use Rattle.std.proofs.Math.Nat.{add-mul}
use Rattle.integer.specs.Words.{word}
use Rattle.integer.proofs.laws.WordsLaws.{row_fits_lem, length_part, get_d_part}
use Rattle.rulebook.specs.declared.Section.{Section}
use Rattle.rulebook.specs.declared.Section.TheVariants.{Vesting, Meter, Residual, Ncc}
use Rattle.rulebook.specs.declared.Terms.{Terms}
use Rattle.rulebook.specs.Terms.{InTerms}
use Rattle.rulebook.specs.DayAmount.{settles_residual, residual_day}
use Rattle.rulebook.specs.Layout.{width, ring, size, slot, interval_size, interval_word, row_word, place, account_words, interval_length, slot_length, slot_start, interval_of, account_place, flag_at}
use Rattle.rulebook.specs.Units.{intervals}
use Rattle.rulebook.specs.BookData.{terms_of}
use Rattle.rulebook.specs.WellFormed.{well_formed}
use Rattle.rulebook.proofs.laws.LayoutLaws.{slot-inside}
use Rattle.rulebook.proofs.laws.FormLaws.{ring-pos}
use Rattle.rulebook.proofs.laws.FormedLaws.{formed-holds, opened_of}
use Rattle.rulebook.proofs.laws.IndexLaws.{place-run}
use Rattle.amounts.specs.Day.{cell_at, Then}
use Rattle.amounts.proofs.laws.IntervalLaws.{interval-word}
use Rattle.closing.specs.Slots.{slot_words, settled_day, settled_start, then_of, settled_then}

-- ---- The slot in the book

pub slot-sized : (o : Terms) (d : ℕ) → InTerms o → slot_start o d + slot_length o.accounts ≤ size o
unfolding slot_start interval_word interval_size size
slot-sized o d h = omega (arith, row_fits_lem (slot o d) (ring o) (slot_length o.accounts) (slot-inside o d (ring-pos o h)))

-- ---- The day that is settled

module _ (o : Terms) (D : ℕ) where
  -- r, if it is not before F
  pub record Settles (r : ℕ) : Type 0 where
    pub due : settles_residual o D ≡ true
    pub day : residual_day o D ≡ r
    pub late : o.first ≤ r

  pub settles : {r : ℕ} → settled_day o D ≡ Some r → Settles r
  unfolding settled_day settles_residual
  settles {r} e = go (leb (o.first + o.lag) D) refl e
    where
      go : (b : Bool) → leb (o.first + o.lag) D ≡ b → cond b (Some (residual_day o D)) None ≡ Some r → Settles r
      go true b e =
          let k = leb→le (o.first + o.lag) D (subst T (sym b) tt) in
          let d = same_Some (residual_day o D) r e in
          record { due = b; day = d; late = omega (arith, d) }
      go false b e = absurd (none-some r e)

  pub settles_none : settled_day o D ≡ None → settles_residual o D ≡ false
  unfolding settled_day
  settles_none e = go (settles_residual o D) e
    where
      go : (b : Bool) → cond b (Some (residual_day o D)) None ≡ None → b ≡ false
      go true e = absurd (none-some (residual_day o D) (sym e))
      go false e = refl

  -- its slot
  pub start-sized : InTerms o → (n : ℕ) → settled_start o D ≡ Some n → n + slot_length o.accounts ≤ size o
  unfolding settled_day
  start-sized h n e = go (settles_residual o D) e
    where
      go : (b : Bool) → option_map (slot_start o) (cond b (Some (residual_day o D)) None) ≡ Some n → n + slot_length o.accounts ≤ size o
      go true e = omega (arith, slot-sized o (residual_day o D) h, same_Some (slot_start o (residual_day o D)) n e)
      go false e = absurd (none-some n e)

  module _ (w : List ℤ) where
    pub then-accounts : (t : Then) → settled_then o w D ≡ Some t → t.accounts ≡ o.accounts
    unfolding settled_day
    then-accounts t e = go (settles_residual o D) e
      where
        go : (b : Bool) → option_map (then_of o w) (cond b (Some (residual_day o D)) None) ≡ Some t → t.accounts ≡ o.accounts
        go true e = ap (λ (t : Then). t.accounts) (sym (same_Some (then_of o w (residual_day o D)) t e))
        go false e = absurd (none-some t e)

module _ (w : List ℤ) (t : T (well_formed w)) (d : ℕ) where
  slot-fits : slot_start (terms_of w) d + slot_length (terms_of w).accounts ≤ length w
  slot-fits = omega (arith, slot-sized (terms_of w) d (opened_of w t), (formed-holds w t).long)

  pub slot-length : length (slot_words (terms_of w) w d) ≡ slot_length (terms_of w).accounts
  slot-length = length_part w (slot_start (terms_of w) d) (slot_length (terms_of w).accounts) slot-fits

-- ---- Its words

module _ (o : Terms) (w : List ℤ) (d : ℕ) where
  -- the index of a slot's word, at interval i and place m
  pub slot-index : (i m : ℕ) → slot_start o d + (i * interval_length o.accounts + m) ≡ interval_word o (slot o d) i m
  unfolding slot_start interval_word interval_size
  slot-index i m = omega (arith, add-mul (slot o d * intervals) i (interval_length o.accounts), add-mul (slot o d * intervals) 0 (interval_length o.accounts))

  -- the load of interval i
  pub load_word : (i : ℕ) → i < intervals → word w (row_word o Ncc 0 d i 0) ≡ word (interval_of o.accounts (slot_words o w d) i) 0
  unfolding row_word
  load_word i hi =
      let n = o.accounts in
      sym (get_d_part (slot_words o w d) (i * interval_length n) (interval_length n) 0 (pos 0) (omega arith)
      ∙ get_d_part w (slot_start o d) (slot_length n) (i * interval_length n + 0) (pos 0) (omega (arith, row_fits_lem i intervals (interval_length n) hi))
      ∙ ap (word w) (slot-index i 0))

  module _ (a i : ℕ) (ha : a < o.accounts) (hi : i < intervals) where
    -- word k of account a's cell at interval i
    pub cell-word : (k : ℕ) → k < account_words → word (cell_at o.accounts (slot_words o w d) a i) k ≡ word w (interval_word o (slot o d) i (account_place a k))
    cell-word k hk =
        let n = o.accounts in
        interval-word (interval_of n (slot_words o w d) i) a k hk
        ∙ get_d_part (slot_words o w d) (i * interval_length n) (interval_length n) (account_place a k) (pos 0) (omega arith)
        ∙ get_d_part w (slot_start o d) (slot_length n) (i * interval_length n + account_place a k) (pos 0) (omega (arith, row_fits_lem i intervals (interval_length n) hi))
        ∙ ap (word w) (slot-index i (account_place a k))

    -- a row in the cell: where its word 0 stands, its word j stands j further
    module _ (sec : Section) (own : place sec a 0 ≡ account_place a (flag_at sec)) where
      row-index : (j : ℕ) → j < width sec → row_word o sec a d i j ≡ interval_word o (slot o d) i (account_place a (flag_at sec + j))
      unfolding row_word
      row-index j h = ap (interval_word o (slot o d) i) (place-run sec a j h ∙ e)
        where
          e : place sec a 0 + j ≡ account_place a (flag_at sec + j)
          e = omega (arith, own)

      -- the book's words of the row, read in the cell
      row_word_lem : flag_at sec + width sec ≤ account_words → (j : ℕ) → j < width sec → word w (row_word o sec a d i j) ≡ word (cell_at o.accounts (slot_words o w d) a i) (flag_at sec + j)
      row_word_lem fits j h = ap (word w) (row-index j h) ∙ sym (cell-word (flag_at sec + j) (omega arith))

    pub vesting-index : (j : ℕ) → j < 9 → row_word o Vesting a d i j ≡ interval_word o (slot o d) i (account_place a (flag_at Vesting + j))
    vesting-index = row-index Vesting refl

    pub meter-index : (j : ℕ) → j < 9 → row_word o Meter a d i j ≡ interval_word o (slot o d) i (account_place a (flag_at Meter + j))
    meter-index = row-index Meter refl

    pub residual-index : (j : ℕ) → j < 5 → row_word o Residual a d i j ≡ interval_word o (slot o d) i (account_place a (flag_at Residual + j))
    residual-index = row-index Residual refl

    pub vesting-word : (j : ℕ) → j < 9 → word w (row_word o Vesting a d i j) ≡ word (cell_at o.accounts (slot_words o w d) a i) (flag_at Vesting + j)
    vesting-word = row_word_lem Vesting refl (omega arith)

    pub meter-word : (j : ℕ) → j < 9 → word w (row_word o Meter a d i j) ≡ word (cell_at o.accounts (slot_words o w d) a i) (flag_at Meter + j)
    meter-word = row_word_lem Meter refl (omega arith)

    pub residual-word : (j : ℕ) → j < 5 → word w (row_word o Residual a d i j) ≡ word (cell_at o.accounts (slot_words o w d) a i) (flag_at Residual + j)
    residual-word = row_word_lem Residual refl (omega arith)
