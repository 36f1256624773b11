-- A header passes its test exactly if its words are those of terms in their ranges; a book with such a header, by its parts. Assumes nothing.
use Rattle.std.specs.Prelude.{◌≡◌, refl, Bool, true, false, ◌&&◌, ◌||◌, ◌⊎◌, List, ℕ, suc, ◌-◌, ◌*◌, ◌≤◌, ◌<◌, ℤ, pos, negsuc, nat_abs, leb, eqb, length}
use Rattle.std.proofs.Common.{sym, ap, ap₂, ◌∙◌, inl, inr, ⊎_elim, arith, eq-eqb, le-leb, leb→le, eqb→eq}
use Rattle.std.proofs.Math.Path.{subst}
use Rattle.std.proofs.Math.Nat.{one-mul}
use Rattle.std.proofs.Math.Dec.{T, le→leb}
use Rattle.std.specs.Int.Signed.{le_z}
use Rattle.integer.specs.Below.{all}
use Rattle.integer.specs.Words.{word}
use Rattle.rulebook.specs.declared.Terms.{Terms}
use Rattle.rulebook.specs.Units.{last_day, between, positive}
use Rattle.rulebook.specs.Shares.{most_accounts}
use Rattle.rulebook.specs.Terms.{most_lag, most_horizon, earliest_first_day, change_fits, terms_fit, InTerms}
use Rattle.rulebook.specs.Layout.{book_mark, mark_word, accounts_word, lag_word, horizon_word, first_day_word, next_day_word, mssl_word, change_day_word, differences_word, balance_word, header_padding_words, header_padding, balance_padding_words, balance_padding, size}
use Rattle.rulebook.specs.BookData.{terms_of, next_day}
use Rattle.rulebook.specs.WellFormed.{day_bound, difference_bound, is_zero, sum_fits, balance_fits, balance_words_fit, days_fit, next_day_fits, terms_words_fit, header_fits, contents_fit, fits, well_formed}
use Rattle.rulebook.proofs.laws.TestLaws.{and_left, and_right, and_both, or_left, or_right, or_cases, and_then, by_twos, tests_same, between-yes, is_natural, is_number, is_zero_lem, zero-yes, above_zero, not_below, between-positive, all_yes, all_at}

-- ---- Terms

change-in : (x : ℕ) → T (change_fits x) → (x ≡ 0) ⊎ ((earliest_first_day ≤ x) × (x ≤ last_day))
change-in x t = or_cases (eqb x 0) (leb earliest_first_day x && leb x last_day) t (λ e. inl (eqb→eq x 0 e))
    (λ u. inr (leb→le earliest_first_day x (and_left (leb earliest_first_day x) (leb x last_day) u), leb→le x last_day (and_right (leb earliest_first_day x) (leb x last_day) u)))

change-fits : (x : ℕ) → (x ≡ 0) ⊎ ((earliest_first_day ≤ x) × (x ≤ last_day)) → T (change_fits x)
change-fits x (inl e) = or_left (eqb x 0) (leb earliest_first_day x && leb x last_day) (rw (eq-eqb x 0 e) tt)
change-fits x (inr h) = or_right (eqb x 0) (leb earliest_first_day x && leb x last_day)
    (and_both (leb earliest_first_day x) (leb x last_day) (le→leb earliest_first_day x h.0) (le→leb x last_day h.1))

pub opened-terms : (o : Terms) → T (terms_fit o) → InTerms o
unfolding terms_fit
opened-terms o t = record {
  accounts_from = leb→le 1 o.accounts (search (and_left, and_right) depth 9);
  accounts_to = leb→le o.accounts 32 (search (and_left, and_right) depth 9);
  lag_from = leb→le 1 o.lag (search (and_left, and_right) depth 9);
  lag_to = leb→le o.lag 75 (search (and_left, and_right) depth 9);
  horizon_from = leb→le 1 o.horizon (search (and_left, and_right) depth 9);
  horizon_to = leb→le o.horizon 92 (search (and_left, and_right) depth 9);
  first_from = leb→le 9497 o.first (search (and_left, and_right) depth 9);
  first_to = leb→le o.first last_day (search (and_left, and_right) depth 9);
  change = change-in o.change (search (and_left, and_right) depth 9);
}

pub change-small : (o : Terms) → InTerms o → o.change ≤ last_day
change-small o t = ⊎_elim (λ e. omega (arith, e)) (λ h. h.1) t.change

pub terms-fit : (o : Terms) → InTerms o → T (terms_fit o)
unfolding terms_fit
terms-fit o t =
    let a = le→leb 1 o.accounts t.accounts_from in
    let b = le→leb o.accounts 32 t.accounts_to in
    let c = le→leb 1 o.lag t.lag_from in
    let d = le→leb o.lag 75 t.lag_to in
    let e = le→leb 1 o.horizon t.horizon_from in
    let f = le→leb o.horizon 92 t.horizon_to in
    let g = le→leb 9497 o.first t.first_from in
    let h = le→leb o.first 36524 t.first_to in
    let i = change-fits o.change t.change in
    search and_both depth 9

-- X as a word: 0, or a day from 9,497 on
abbrev change_word_fits : ℤ → Bool
change_word_fits z = is_zero z || between (pos earliest_first_day) (pos last_day) z

change-word : (z : ℤ) → (change_fits (positive z) && le_z (pos 0) z) ≡ change_word_fits z
change-word (pos n) = rw (le-leb 0 n (omega arith)) (and_yes (eqb n 0 || days) ∙ ap (λ (b : Bool). b || days) none)
  where
    days : Bool
    days = leb earliest_first_day n && leb n last_day

    and_yes : (b : Bool) → (b && true) ≡ b
    and_yes true = refl
    and_yes false = refl

    none : eqb n 0 ≡ leb n 0
    none = tests_same (eqb n 0) (leb n 0) (λ t. le→leb n 0 (omega (arith, eqb→eq n 0 t))) (λ t. rw (eq-eqb n 0 (omega (arith, leb→le n 0 t))) tt)
change-word (negsuc n) = refl

-- those of a header, word by word
pub terms-by_words : (w : List ℤ) → terms_words_fit w
    ≡ (between (pos 1) (pos most_accounts) (word w accounts_word) && between (pos 1) (pos most_lag) (word w lag_word) && between (pos 1) (pos most_horizon) (word w horizon_word)
    && between (pos earliest_first_day) (pos last_day) (word w first_day_word) && change_word_fits (word w change_day_word))
unfolding terms_words_fit terms_fit
terms-by_words w =
    and_then (change_fits (terms_of w).change) (le_z (pos 0) (word w change_day_word)) (by_twos (leb 1 (terms_of w).accounts) (leb (terms_of w).accounts most_accounts) (leb 1 (terms_of w).lag) (leb (terms_of w).lag most_lag)
    (leb 1 (terms_of w).horizon) (leb (terms_of w).horizon most_horizon) (leb earliest_first_day (terms_of w).first) (leb (terms_of w).first last_day)
    ∙ sym (ap₂ ◌&&◌ (ap₂ ◌&&◌ (ap₂ ◌&&◌ (between-positive 0 most_accounts (word w accounts_word)) (between-positive 0 most_lag (word w lag_word)))
    (between-positive 0 most_horizon (word w horizon_word))) (between-positive 9496 last_day (word w first_day_word)))) (change-word (word w change_day_word))

-- ---- The header

-- its words, of terms o, C the next day to close
pub record HeaderSays (o : Terms) (C : ℕ) (w : List ℤ) : Type 0 where
  pub mark : word w mark_word ≡ pos book_mark
  pub accounts : word w accounts_word ≡ pos o.accounts
  pub lag : word w lag_word ≡ pos o.lag
  pub horizon : word w horizon_word ≡ pos o.horizon
  pub first : word w first_day_word ≡ pos o.first
  pub next : word w next_day_word ≡ pos C
  pub change : word w change_day_word ≡ pos o.change
  pub zeros : (n : ℕ) → n < header_padding_words → word w (header_padding n) ≡ pos 0
  pub terms : InTerms o
  pub begun : o.first ≤ C
  pub ended : C ≤ suc last_day

pub header-says : (w : List ℤ) → T (header_fits w) → HeaderSays (terms_of w) (next_day w) w
unfolding header_fits terms_words_fit
header-says w t =
    let o = opened-terms (terms_of w) (search (and_left, and_right) depth 5) in
    let f = above_zero (word w first_day_word) (omega (arith, o.first_from)) in
    let u : T (next_day_fits w) = search (and_left, and_right) depth 4 in
    let c = is_natural (terms_of w).first (suc last_day) (word w next_day_word) (subst (λ (z : ℤ). T (between z (pos (suc last_day)) (word w next_day_word))) f u) in
    record {
      mark = is_number book_mark (word w mark_word) (search (and_left, and_right) depth 4);
      accounts = above_zero (word w accounts_word) o.accounts_from;
      lag = above_zero (word w lag_word) o.lag_from;
      horizon = above_zero (word w horizon_word) o.horizon_from;
      first = f;
      next = c.0;
      change = not_below (word w change_day_word) (search (and_left, and_right) depth 5);
      zeros = λ n h. is_zero_lem (word w (header_padding n)) (all_at header_padding_words (λ n. is_zero (word w (header_padding n))) (search (and_left, and_right) depth 4) n h);
      terms = o;
      begun = c.1;
      ended = c.2;
    }

module _ (o : Terms) (C : ℕ) (w : List ℤ) (h : HeaderSays o C w) where
  pub terms-said : terms_of w ≡ o
  terms-said = rw (h.accounts, h.lag, h.horizon, h.first, h.change) refl

  pub next_said : next_day w ≡ C
  next_said = ap positive h.next

  pub header-passes : T (header_fits w)
  unfolding header_fits terms_words_fit
  header-passes =
      let m : T (between (pos book_mark) (pos book_mark) (word w mark_word)) = rw h.mark tt in
      let t : T (terms_fit (terms_of w)) = subst (λ (x : Terms). T (terms_fit x)) (sym terms-said) (terms-fit o h.terms) in
      let x : T (le_z (pos 0) (word w change_day_word)) = rw h.change (le→leb 0 o.change (omega arith)) in
      let c : T (next_day_fits w) = rw (h.first, h.next) (between-yes o.first (suc last_day) C h.begun h.ended) in
      let z : T (all header_padding_words (λ n. is_zero (word w (header_padding n)))) = all_yes header_padding_words (λ n. is_zero (word w (header_padding n))) (λ n l. zero-yes (h.zeros n l)) in
      search and_both depth 5

  -- ---- The book

  -- account a's eight words
  account-passes : (k a : ℕ) → nat_abs (word w (balance_word a)) ≤ k * day_bound → ((j : ℕ) → j < balance_padding_words → word w (balance_padding a j) ≡ pos 0) → T (balance_words_fit w k a)
  unfolding balance_words_fit sum_fits
  account-passes k a b z = and_both (balance_fits 1 k (word w (balance_word a))) (all balance_padding_words (λ j. is_zero (word w (balance_padding a j))))
      (le→leb (nat_abs (word w (balance_word a))) (1 * (k * day_bound)) (rw one-mul b)) (all_yes balance_padding_words (λ j. is_zero (word w (balance_padding a j))) (λ j l. zero-yes (z j l)))

  -- its size, sums, zeros and days
  module _ (long : size o ≤ length w) (mssl : nat_abs (word w mssl_word) ≤ o.accounts * ((C - o.first) * day_bound))
      (difference : nat_abs (word w differences_word) ≤ o.accounts * ((C - o.first) * difference_bound))
      (balances : (a : ℕ) → a < o.accounts → nat_abs (word w (balance_word a)) ≤ (C - o.first) * day_bound)
      (zeros : (a j : ℕ) → a < o.accounts → j < balance_padding_words → word w (balance_padding a j) ≡ pos 0) (days : T (days_fit o w C)) where
    all_pass : T (fits o w C)
    unfolding fits contents_fit sum_fits
    all_pass =
        let a = header-passes in
        let l = le→leb (size o) (length w) long in
        let m = le→leb (nat_abs (word w mssl_word)) (o.accounts * ((C - o.first) * day_bound)) mssl in
        let d = le→leb (nat_abs (word w differences_word)) (o.accounts * ((C - o.first) * difference_bound)) difference in
        let b = all_yes o.accounts (balance_words_fit w (C - o.first)) (λ a h. account-passes (C - o.first) a (balances a h) (λ j. zeros a j h)) in
        search and_both depth 6

    pub book-passes : T (well_formed w)
    unfolding well_formed
    book-passes = rw (terms-said, next_said) all_pass
