-- Words that hold a ledger: storing a file's rows in them is the ledger's own submission. Assumes nothing.
use Rattle.std.specs.Prelude.{◌≡◌, refl, Bool, true, false, cond, ℕ, zero, ◌+◌, ◌-◌, ◌*◌, ◌<◌, ℤ, pos, T, length, get_or}
use Rattle.std.proofs.Common.{sym, ap, ◌∙◌, subst, eqb→eq}
use mathlib.Core.List.{List, [], ◌∷◌}
use Rattle.std.proofs.Math.Nat.{zero-add}
use native.Mathlib.Omega.{arith}
use Rattle.std.proofs.Math.Dec.{eqb_refl}
use Rattle.integer.specs.Below.{Each}
use Rattle.integer.specs.Words.{word}
use Rattle.rulebook.specs.declared.Section.{Section}
use Rattle.rulebook.specs.declared.Section.TheVariants.{Vesting, Meter, Residual, Ncc}
use Rattle.rulebook.specs.declared.Terms.{Terms}
use Rattle.rulebook.specs.Sections.{accounts_of}
use Rattle.rulebook.specs.Layout.{width, place, interval_size, ring, base, slot, interval_word, row_word, Word, padding, is_padding, table_of, account_table, table_place, account_place, interval_words, account_words, mark_word, accounts_word, lag_word, horizon_word, first_day_word, next_day_word, mssl_word, change_day_word, differences_word, balance_word, balance_padding, header_padding, InWindow}
use Rattle.rulebook.specs.WindowWalk.{window_slot}
use Rattle.rulebook.specs.File.{Row}
use Rattle.rulebook.specs.Submit.{entry, row_stored, rows_stored}
use Rattle.rulebook.specs.History.{is_for}
use Rattle.rulebook.specs.Ledger.{Padding, of_interval, of_account, Ledger, HoldsLedger, overlaid, filed, submitted_to}
use Rattle.rulebook.proofs.laws.TestLaws.{and_left, and_right, and_both}
use Rattle.rulebook.proofs.laws.SectionsLaws.{same_section_lem, section-self}
use Rattle.rulebook.proofs.laws.RowWordLaws.{row_word_lem, not_padding}
use Rattle.rulebook.proofs.laws.LayoutLaws.{rows_apart, days-apart, window-apart, interval-apart, row_inside, account-words_apart}
use Rattle.rulebook.proofs.laws.WordLaws.{row_out, row_in, length-row_stored}

-- figures that agree, and balances that agree for the book's accounts
pub held_same : {o : Terms} {b c : Ledger} {w : List ℤ} → b.closed ≡ c.closed → ((s : Section) (a d i j : ℕ) → b.entries s a d i j ≡ c.entries s a d i j)
    → ((a : ℕ) → a < o.accounts → b.balance a ≡ c.balance a) → b.mssl ≡ c.mssl → b.differences ≡ c.differences → HoldsLedger o b w → HoldsLedger o c w
held_same {o} {b} {c} {w} k f e m x h = record {
  long = h.long;
  mark = h.mark;
  accounts = h.accounts;
  lag = h.lag;
  horizon = h.horizon;
  first = h.first;
  next = h.next ∙ ap (λ (x : ℕ). pos (o.first + x)) k;
  mssl = h.mssl ∙ m;
  change = h.change;
  differences = h.differences ∙ x;
  header_zeros = h.header_zeros;
  balances = λ a x. h.balances a x ∙ e a x;
  balance_zeros = h.balance_zeros;
  held = λ s a d i j x ha hi hj. h.held s a d i j (subst (λ (y : ℕ). InWindow o y d) (sym k) x) ha hi hj ∙ f s a d i j;
  early = subst (λ (y : ℕ). (u i m : ℕ) → y + u < o.lag → i < 48 → m < interval_size o → word w (interval_word o (window_slot o y u) i m) ≡ pos 0) k h.early;
  padding = h.padding;
}

-- ---- a row's key

pub record IsFor (s : Section) (a d : ℕ) (row : Row) : Type 0 where
  pub section : row.section ≡ s
  pub account : row.account ≡ a
  pub day : row.day ≡ d

pub is_for_lem : (s : Section) (a d : ℕ) (row : Row) → T (is_for s a d row) → IsFor s a d row
is_for_lem s a d row h = record {
  section = same_section_lem row.section s (search (and_left, and_right));
  account = eqb→eq row.account a (search (and_left, and_right));
  day = eqb→eq row.day d (search (and_left, and_right));
}

pub for_itself : {s : Section} {a d : ℕ} (row : Row) → IsFor s a d row → T (is_for s a d row)
for_itself {s} {a} {d} row h = rw (← h.section, ← h.account, ← h.day) (search (and_both, section-self, eqb_refl))

-- no row's word is padding, below the intervals, or in the slot of no day
account-padding : (s : Section) (a j b q : ℕ) → table_of s ≡ account_table → j < width s → q < account_words → T (is_padding (get_or account_table q padding))
    → account_place b q ≡ account_place a (table_place s j) → ⊥
account-padding s a j b q t h hq x e =
    let l : table_place s j < account_words = subst (λ (table : List Word). table_place s j < length table) t (row_word_lem s j h).inside in
    let y = account-words_apart b a q (table_place s j) hq l (omega arith) in
    not_padding s j q h (sym y.1) (subst (λ (table : List Word). T (is_padding (get_or table q padding))) (sym t) x)

row-padding : (n : ℕ) (s : Section) (a j m : ℕ) → a < accounts_of s n → j < width s → Padding n m → m ≡ place s a j → ⊥
row-padding n Vesting a j m ha hj (of_interval q h x) e = omega arith
row-padding n Meter a j m ha hj (of_interval q h x) e = omega arith
row-padding n Residual a j m ha hj (of_interval q h x) e = omega arith
row-padding n Ncc a j m ha hj (of_interval q h x) e = not_padding Ncc j q hj (sym e) x
row-padding n Vesting a j m ha hj (of_account b q hb h x) e = account-padding Vesting a j b q refl hj h x e
row-padding n Meter a j m ha hj (of_account b q hb h x) e = account-padding Meter a j b q refl hj h x e
row-padding n Residual a j m ha hj (of_account b q hb h x) e = account-padding Residual a j b q refl hj h x e
row-padding n Ncc a j m ha hj (of_account b q hb h x) e = let l = (row_word_lem Ncc j hj).inside in omega arith

pub padding-inside : (n m : ℕ) → Padding n m → m < interval_words + account_words * n
padding-inside n m (of_interval q h x) = omega arith
padding-inside n m (of_account a q ha h x) = omega arith

pub padding-fits : (o : Terms) (m : ℕ) → Padding o.accounts m → m < interval_size o
unfolding interval_size
padding-fits o m h = padding-inside o.accounts m h

module _ (o : Terms) (p : zero < ring o) where
  below_rows : (s : Section) (a d i j : ℕ) (n : ℕ) → n < base o → n ≡ row_word o s a d i j → ⊥
  unfolding row_word interval_word
  below_rows s a d i j n h e = omega arith

  early-apart : (k u d : ℕ) → k + u < o.lag → InWindow o k d → window_slot o k u ≡ slot o d → ⊥
  unfolding slot ring window_slot
  early-apart k u d h hd e =
      let x = window-apart 0 {p = o.lag + o.horizon} {u = k + u + o.horizon} {u' = d - o.first} (omega arith) (omega arith) (simp zero-add e) in
      omega arith

  module _ (b : Ledger) (row : Row) (day : InWindow o b.closed row.day) (account : row.account < accounts_of row.section o.accounts) where
    front : (w : List ℤ) (n : ℕ) → n < base o → word (row_stored o row 48 w) n ≡ word w n
    front w n x = row_out o row 48 w n (λ i j hi hj e. below_rows row.section row.account row.day i j n x e)

    elsewhere : (w : List ℤ) (t i m : ℕ) → i < 48 → m < interval_size o
        → ((j : ℕ) → j < width row.section → t ≡ slot o row.day → m ≡ place row.section row.account j → ⊥)
        → word (row_stored o row 48 w) (interval_word o t i m) ≡ word w (interval_word o t i m)
    unfolding row_word interval_size
    elsewhere w t i m hi hm f = row_out o row 48 w (interval_word o t i m) (λ i' j hi' hj e.
        let y = interval-apart o t (slot o row.day) hi hi' hm (row_inside o.accounts row.section row.account j account hj) e in f j hj y.0 y.2)

    decide : (w : List ℤ) → HoldsLedger o b w → (s : Section) (a d i j : ℕ) → InWindow o b.closed d → a < accounts_of s o.accounts → i < 48 → j < width s
        → (y : Bool) → is_for s a d row ≡ y → word (row_stored o row 48 w) (row_word o s a d i j) ≡ cond y (entry row i j) (b.entries s a d i j)
    decide w h s a d i j x ha hi hj true e =
        let f = is_for_lem s a d row (subst T (sym e) tt) in
        rw (← f.section, ← f.account, ← f.day) (row_in o row p account 48 w (omega arith) h.long i j hi (subst (λ (y : Section). j < width y) (sym f.section) hj))
    decide w h s a d i j x ha hi hj false e =
        row_out o row 48 w (row_word o s a d i j) (λ i' j' hi' hj' c.
        let y = rows_apart o s row.section a row.account d row.day i i' j j' ha account hi hi' hj hj' c in
        subst T e (for_itself row (record { section = sym y.row.section; account = sym y.row.account; day = sym (days-apart o b.closed d row.day x day y.slots) })))
        ∙ h.held s a d i j x ha hi hj

    -- one row stored
    pub row-held : (w : List ℤ) → HoldsLedger o b w → HoldsLedger o (filed row b) (row_stored o row 48 w)
    unfolding base
    row-held w h = record {
      long = omega (arith, length-row_stored o row 48 w, h.long);
      mark = front w mark_word (omega arith) ∙ h.mark;
      accounts = front w accounts_word (omega arith) ∙ h.accounts;
      lag = front w lag_word (omega arith) ∙ h.lag;
      horizon = front w horizon_word (omega arith) ∙ h.horizon;
      first = front w first_day_word (omega arith) ∙ h.first;
      next = front w next_day_word (omega arith) ∙ h.next;
      mssl = front w mssl_word (omega arith) ∙ h.mssl;
      change = front w change_day_word (omega arith) ∙ h.change;
      differences = front w differences_word (omega arith) ∙ h.differences;
      header_zeros = λ n x. front w (header_padding n) (omega arith) ∙ h.header_zeros n x;
      balances = λ a x. front w (balance_word a) (omega arith) ∙ h.balances a x;
      balance_zeros = λ a j x y. front w (balance_padding a j) (omega arith) ∙ h.balance_zeros a j x y;
      held = λ s a d i j x ha hi hj. decide w h s a d i j x ha hi hj (is_for s a d row) refl;
      early = λ u i m x hi hm. elsewhere w _ i m hi hm (λ j hj e f. early-apart b.closed u row.day x day e) ∙ h.early u i m x hi hm;
      padding = λ t i m ht hi hm. elsewhere w t i m hi (padding-fits o m hm)
          (λ j hj e f. row-padding o.accounts row.section row.account j m account hj hm f) ∙ h.padding t i m ht hi hm;
    }

pub record Storable (o : Terms) (k : ℕ) (row : Row) : Type 0 where
  pub day : InWindow o k row.day
  pub account : row.account < accounts_of row.section o.accounts

module _ (o : Terms) (p : zero < ring o) where
  pub rows-held : (rs : List Row) (b : Ledger) (w : List ℤ) → Each (Storable o b.closed) rs → HoldsLedger o b w → HoldsLedger o (submitted_to rs b) (rows_stored o rs w)
  unfolding rows_stored overlaid
  rows-held [] b w x h = h
  rows-held (r ∷ rs) b w x h = rows-held rs (filed r b) (row_stored o r 48 w) x.1 (row-held o p b r x.0.day x.0.account w h)
