-- Where words stand: no two words of the book have one index, and no two days of a window of L + H days one slot. Assumes nothing.
use Rattle.std.specs.Prelude.{◌≡◌, refl, List, length}
use Rattle.std.proofs.Common.{sym, ◌∙◌, subst, div-add-mod', mul_comm}
use Rattle.std.proofs.Math.Path.{ap}
use Prim.Native.Nat.{ℕ, zero, ◌+◌, ◌-◌, ◌*◌, ◌/◌, ◌%◌, ◌<◌}
use Rattle.std.proofs.Math.Nat.{add_left_cancel, mod-lt}
use native.Mathlib.Omega.{arith}
use Rattle.std.proofs.Math.Arith.{digits_div, digits_mod, digits_lt}
use Rattle.rulebook.specs.declared.Section.{Section}
use Rattle.rulebook.specs.declared.Section.TheVariants.{Vesting, Meter, Residual, Ncc}
use Rattle.rulebook.specs.declared.Terms.{Terms}
use Rattle.rulebook.specs.Sections.{accounts_of}
use Rattle.rulebook.specs.Layout.{width, place, interval_size, ring, base, size, slot, InWindow, interval_word, row_word, Word, table_of, account_table, table_place, account_place, interval_words, account_words}
use Rattle.rulebook.proofs.laws.RowWordLaws.{row_word_lem, places-apart}

-- two digits of a number are its own
pub quotient : (q q' : ℕ) {m r r' : ℕ} → r < m → r' < m → q * m + r ≡ q' * m + r' → q ≡ q'
quotient q q' {m} {r} {r'} h h' e = sym (digits_div q h) ∙ ap (λ (x : ℕ). x / m) e ∙ digits_div q' h'

pub remainder : (q q' : ℕ) {m r r' : ℕ} → r < m → r' < m → q * m + r ≡ q' * m + r' → r ≡ r'
remainder q q' {m} {r} {r'} h h' e = sym (digits_mod q h) ∙ ap (λ (x : ℕ). x % m) e ∙ digits_mod q' h'

-- two days of a window of p days share no slot
pub window-apart : (n : ℕ) {p u u' : ℕ} → u < p → u' < p → (n + u) % p ≡ (n + u') % p → u ≡ u'
window-apart n {p} {u} {u'} h h' e =
    let c = div-add-mod' (n + u) p in
    let c' = div-add-mod' (n + u') p in
    let x : (n + u') / p * p + u ≡ (n + u) / p * p + u' = omega arith in
    remainder ((n + u') / p) ((n + u) / p) h h' x

-- ---- inside an interval
pub record SameRow (s : Section) (a j : ℕ) (s' : Section) (a' j' : ℕ) : Type 0 where
  pub section : s ≡ s'
  pub account : a ≡ a'
  pub word : j ≡ j'

pub account-words_apart : (a a' k k' : ℕ) → k < account_words → k' < account_words → account_words * a + k ≡ account_words * a' + k' → (a ≡ a') × (k ≡ k')
account-words_apart a a' k k' h h' e =
    let x : a * 24 + k ≡ a' * 24 + k' = omega arith in
    (quotient a a' h h' x, remainder a a' h h' x)

accounts-apart : (s s' : Section) (a a' j j' : ℕ) → table_of s ≡ account_table → table_of s' ≡ account_table → j < width s → j' < width s'
    → account_place a (table_place s j) ≡ account_place a' (table_place s' j') → SameRow s a j s' a' j'
accounts-apart s s' a a' j j' t t' h h' e =
    let b : table_place s j < account_words = subst (λ (table : List Word). table_place s j < length table) t (row_word_lem s j h).inside in
    let b' : table_place s' j' < account_words = subst (λ (table : List Word). table_place s' j' < length table) t' (row_word_lem s' j' h').inside in
    let x = account-words_apart a a' (table_place s j) (table_place s' j') b b' (omega arith) in
    let y = places-apart s s' j j' (t ∙ sym t') h h' x.1 in
    record { section = y.0; account = x.0; word = y.1 }

-- the interval's own words stand before the accounts'
own-before : {X : Type 0} (a j q : ℕ) → j < width Ncc → table_place Ncc j ≡ account_place a q → X
own-before a j q h e = let x = (row_word_lem Ncc j h).inside in absurd (omega arith)

pub row_words-apart : (n : ℕ) (s s' : Section) (a a' j j' : ℕ) → a < accounts_of s n → a' < accounts_of s' n → j < width s → j' < width s'
    → place s a j ≡ place s' a' j' → SameRow s a j s' a' j'
row_words-apart n Vesting Vesting a a' j j' b b' h h' e = accounts-apart Vesting Vesting a a' j j' refl refl h h' e
row_words-apart n Vesting Meter a a' j j' b b' h h' e = accounts-apart Vesting Meter a a' j j' refl refl h h' e
row_words-apart n Vesting Residual a a' j j' b b' h h' e = accounts-apart Vesting Residual a a' j j' refl refl h h' e
row_words-apart n Vesting Ncc a a' j j' b b' h h' e = own-before a j' (table_place Vesting j) h' (sym e)
row_words-apart n Meter Vesting a a' j j' b b' h h' e = accounts-apart Meter Vesting a a' j j' refl refl h h' e
row_words-apart n Meter Meter a a' j j' b b' h h' e = accounts-apart Meter Meter a a' j j' refl refl h h' e
row_words-apart n Meter Residual a a' j j' b b' h h' e = accounts-apart Meter Residual a a' j j' refl refl h h' e
row_words-apart n Meter Ncc a a' j j' b b' h h' e = own-before a j' (table_place Meter j) h' (sym e)
row_words-apart n Residual Vesting a a' j j' b b' h h' e = accounts-apart Residual Vesting a a' j j' refl refl h h' e
row_words-apart n Residual Meter a a' j j' b b' h h' e = accounts-apart Residual Meter a a' j j' refl refl h h' e
row_words-apart n Residual Residual a a' j j' b b' h h' e = accounts-apart Residual Residual a a' j j' refl refl h h' e
row_words-apart n Residual Ncc a a' j j' b b' h h' e = own-before a j' (table_place Residual j) h' (sym e)
row_words-apart n Ncc Vesting a a' j j' b b' h h' e = own-before a' j (table_place Vesting j') h e
row_words-apart n Ncc Meter a a' j j' b b' h h' e = own-before a' j (table_place Meter j') h e
row_words-apart n Ncc Residual a a' j j' b b' h h' e = own-before a' j (table_place Residual j') h e
row_words-apart n Ncc Ncc a a' j j' b b' h h' e = record { section = refl; account = omega arith; word = (places-apart Ncc Ncc j j' refl h h' e).1 }

-- an account's word is the interval's
pub account-inside : (n a q : ℕ) → a < n → q < account_words → account_place a q < interval_words + account_words * n
account-inside n a q h k = omega arith

-- a row's words are the interval's
pub row_inside : (n : ℕ) (s : Section) (a j : ℕ) → a < accounts_of s n → j < width s → place s a j < interval_words + account_words * n
row_inside n Vesting a j h k = account-inside n a (table_place Vesting j) h (row_word_lem Vesting j k).inside
row_inside n Meter a j h k = account-inside n a (table_place Meter j) h (row_word_lem Meter j k).inside
row_inside n Residual a j h k = account-inside n a (table_place Residual j) h (row_word_lem Residual j k).inside
row_inside n Ncc a j h k = let x = (row_word_lem Ncc j k).inside in omega arith

module _ (o : Terms) where
  -- two words of intervals with one index are the same word
  pub interval-apart : (t t' : ℕ) {i i' m m' : ℕ} → i < 48 → i' < 48 → m < interval_size o → m' < interval_size o
      → interval_word o t i m ≡ interval_word o t' i' m' → (t ≡ t') × (i ≡ i') × (m ≡ m')
  unfolding interval_word
  interval-apart t t' {i} {i'} {m} {m'} hi hi' hm hm' e =
      let x : (t * 48 + i) * interval_size o + m ≡ (t' * 48 + i') * interval_size o + m' = add_left_cancel (base o) e in
      let y : t * 48 + i ≡ t' * 48 + i' = quotient (t * 48 + i) (t' * 48 + i') hm hm' x in
      (quotient t t' hi hi' y, remainder t t' hi hi' y, remainder (t * 48 + i) (t' * 48 + i') hm hm' x)

  -- every word of an interval is a word of the book
  pub interval-inside : {t i m : ℕ} → t < ring o → i < 48 → m < interval_size o → interval_word o t i m < size o
  unfolding interval_word size
  interval-inside {t} {i} {m} ht hi hm =
      let x : t * 48 + i < ring o * 48 = digits_lt ht hi in
      let y : (t * 48 + i) * interval_size o + m < ring o * 48 * interval_size o = digits_lt x hm in
      omega (arith, ap (λ (k : ℕ). k * interval_size o) (mul_comm (ring o) 48))

  pub slot-inside : (d : ℕ) → zero < ring o → slot o d < ring o
  unfolding slot
  slot-inside d h = mod-lt (d - o.first) h

  pub record SameWord (s : Section) (a d i j : ℕ) (s' : Section) (a' d' i' j' : ℕ) : Type 0 where
    pub slots : slot o d ≡ slot o d'
    pub interval : i ≡ i'
    pub row : SameRow s a j s' a' j'

  -- two words of rows with one index are the same word of the same row
  pub rows_apart : (s s' : Section) (a a' d d' i i' j j' : ℕ) → a < accounts_of s o.accounts → a' < accounts_of s' o.accounts
      → i < 48 → i' < 48 → j < width s → j' < width s' → row_word o s a d i j ≡ row_word o s' a' d' i' j' → SameWord s a d i j s' a' d' i' j'
  unfolding row_word interval_size
  rows_apart s s' a a' d d' i i' j j' ha ha' hi hi' hj hj' e =
      let x = interval-apart (slot o d) (slot o d') hi hi' (row_inside o.accounts s a j ha hj) (row_inside o.accounts s' a' j' ha' hj') e in
      record { slots = x.0; interval = x.1; row = row_words-apart o.accounts s s' a a' j j' ha ha' hj hj' x.2 }

  -- two days of the window share no slot
  pub days-apart : (k d d' : ℕ) → InWindow o k d → InWindow o k d' → slot o d ≡ slot o d' → d ≡ d'
  unfolding slot ring
  days-apart k d d' h h' e =
      let n : ℕ = k - o.lag in
      let x : n + (d - o.first - n) ≡ d - o.first = omega arith in
      let x' : n + (d' - o.first - n) ≡ d' - o.first = omega arith in
      let u = window-apart n {p = o.lag + o.horizon} {u = d - o.first - n} {u' = d' - o.first - n} (omega arith) (omega arith) (rw (x, x') e) in
      omega arith
