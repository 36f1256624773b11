-- The tests of a row's words, an account's and an interval's: words alike pass alike; what each test says, and what it takes to pass. Assumes nothing.
use Rattle.std.specs.Prelude.{◌≡◌, Bool, true, false, ◌||◌, not, List, ℕ, suc, ◌<◌, ℤ, T, length, get_or}
use Rattle.std.proofs.Math.Path.{refl}
use Rattle.std.proofs.Common.{ap, subst, arith}
use Rattle.integer.specs.Below.{all, any}
use Rattle.rulebook.specs.declared.Section.{Section}
use Rattle.rulebook.specs.declared.Section.TheVariants.{Vesting, Meter, Residual, Ncc}
use Rattle.rulebook.specs.Sections.{accounts_of, most_count}
use Rattle.rulebook.specs.Layout.{Word, padding, is_padding, interval_table, account_table, table_of, account_words, account_place, interval_length, width, word_name, table_place, flag_index, flag_at, place}
use Rattle.rulebook.specs.WellFormed.{is_zero, row_blank, word_fits, row_counts, row_fits, padding_zero, word_of_row, rows_there, account_fits, ncc_fits, interval_fits}
use Rattle.rulebook.specs.Ledger.{Padding, of_interval, of_account}
use Rattle.rulebook.proofs.laws.TestLaws.{and_left, and_right, and_both, all_same, any_same, all_yes, all_at}
use Rattle.rulebook.proofs.laws.RowWordLaws.{row_word_lem}

-- ---- Words alike to the length

pub row_same : (s : Section) (f g : ℕ → ℤ) → ((j : ℕ) → j < width s → f j ≡ g j) → row_fits s f ≡ row_fits s g
unfolding row_fits row_blank row_counts
row_same s f g e =
    let blank : row_blank s f ≡ row_blank s g = all_same (width s) (λ j. is_zero (f j)) (λ j. is_zero (g j)) (λ j hj. ap is_zero (e j hj)) in
    let words : (c : ℕ) → all (width s) (λ j. word_fits s c (word_name s j) (f j)) ≡ all (width s) (λ j. word_fits s c (word_name s j) (g j))
    = λ c. all_same (width s) (λ j. word_fits s c (word_name s j) (f j)) (λ j. word_fits s c (word_name s j) (g j)) (λ j hj. ap (word_fits s c (word_name s j)) (e j hj)) in
    let counts : any (suc (most_count s)) (row_counts s f) ≡ any (suc (most_count s)) (row_counts s g)
    = any_same (suc (most_count s)) (row_counts s f) (row_counts s g) (λ c hc. rw (words c)) in
    rw (blank, counts)

pub padding-same : (table : List Word) (f g : ℕ → ℤ) → ((q : ℕ) → q < length table → f q ≡ g q) → padding_zero table f ≡ padding_zero table g
unfolding padding_zero
padding-same table f g e = all_same (length table) _ _ (λ q h. ap (λ (z : ℤ). not (is_padding (get_or table q padding)) || is_zero z) (e q h))

module _ (closed : Bool) (f g : ℕ → ℤ) (same : (q : ℕ) → q < account_words → f q ≡ g q) where
  row-alike : (s : Section) → table_of s ≡ account_table → row_fits s (word_of_row f s) ≡ row_fits s (word_of_row g s)
  row-alike s e = row_same s (word_of_row f s) (word_of_row g s) (λ j h. same (table_place s j) (subst (λ (table : List Word). table_place s j < length table) e (row_word_lem s j h).inside))

  pub account-same : account_fits closed f ≡ account_fits closed g
  unfolding account_fits rows_there
  account-same = rw (padding-same account_table f g same, row-alike Vesting refl, row-alike Meter refl, row-alike Residual refl, same (flag_at Vesting) (omega arith), same (flag_at Meter) (omega arith))

module _ (n : ℕ) (closed : Bool) (f g : ℕ → ℤ) (same : (m : ℕ) → m < interval_length n → f m ≡ g m) where
  ncc-alike : ncc_fits f ≡ ncc_fits g
  unfolding ncc_fits
  ncc-alike = rw (
    padding-same interval_table f g (λ q h. same q (omega arith)),
    row_same Ncc (word_of_row f Ncc) (word_of_row g Ncc) (λ j h. same (table_place Ncc j) (omega (arith, (row_word_lem Ncc j h).inside))),
  )

  accounts-alike : all n (λ a. account_fits closed (λ q. f (account_place a q))) ≡ all n (λ a. account_fits closed (λ q. g (account_place a q)))
  accounts-alike = all_same n _ _ (λ a h. account-same closed (λ q. f (account_place a q)) (λ q. g (account_place a q)) (λ q l. same (account_place a q) (omega arith)))

  pub interval-same : interval_fits n closed f ≡ interval_fits n closed g
  unfolding interval_fits
  interval-same = rw (ncc-alike, accounts-alike)

-- ---- A table's padding

padding-zero : (table : List Word) (f : ℕ → ℤ) → T (padding_zero table f) → (q : ℕ) → q < length table → T (is_padding (get_or table q padding)) → T (is_zero (f q))
unfolding padding_zero
padding-zero table f t q hq x = go (is_padding (get_or table q padding)) x (all_at (length table) (λ q. not (is_padding (get_or table q padding)) || is_zero (f q)) t q hq)
  where
    go : (b : Bool) → T b → T (not b || is_zero (f q)) → T (is_zero (f q))
    go true x y = y
    go false x y = absurd x

not_or : (a b : Bool) → (T a → T b) → T (not a || b)
not_or true b f = f tt
not_or false b f = tt

pub padding-yes : (table : List Word) (f : ℕ → ℤ) → ((q : ℕ) → q < length table → T (is_padding (get_or table q padding)) → T (is_zero (f q))) → T (padding_zero table f)
unfolding padding_zero
padding-yes table f h = all_yes (length table) (λ q. not (is_padding (get_or table q padding)) || is_zero (f q)) (λ q hq. not_or (is_padding (get_or table q padding)) (is_zero (f q)) (h q hq))

-- ---- An account's words

module _ (closed : Bool) (f : ℕ → ℤ) where
  account-padding : T (account_fits closed f) → T (padding_zero account_table f)
  unfolding account_fits
  account-padding t = search (and_left, and_right)

  account-rows : T (account_fits closed f) → T (row_fits Vesting (word_of_row f Vesting)) × T (row_fits Meter (word_of_row f Meter)) × T (row_fits Residual (word_of_row f Residual))
  unfolding account_fits
  account-rows t = (search (and_left, and_right), search (and_left, and_right), search (and_left, and_right))

  account-closed : T (account_fits closed f) → T (not closed || rows_there f)
  unfolding account_fits
  account-closed t = search (and_left, and_right)

  pub account-yes : T (padding_zero account_table f) → T (row_fits Vesting (word_of_row f Vesting)) → T (row_fits Meter (word_of_row f Meter)) → T (row_fits Residual (word_of_row f Residual))
      → (T closed → T (rows_there f)) → T (account_fits closed f)
  unfolding account_fits
  account-yes p v m r h = let c = not_or closed (rows_there f) h in search and_both depth 6

-- both flags, of a closed day
account-there : (f : ℕ → ℤ) (closed : Bool) → T closed → T (account_fits closed f) → T (not (is_zero (f (flag_at Vesting)))) × T (not (is_zero (f (flag_at Meter))))
unfolding rows_there
account-there f true c t =
    let x : T (rows_there f) = account-closed true f t in
    (and_left (not (is_zero (f (flag_at Vesting)))) (not (is_zero (f (flag_at Meter)))) x, and_right (not (is_zero (f (flag_at Vesting)))) (not (is_zero (f (flag_at Meter)))) x)
account-there f false c t = absurd c

-- ---- An interval's words

module _ (n : ℕ) (closed : Bool) (f : ℕ → ℤ) where
  pub interval-yes : T (ncc_fits f) → ((a : ℕ) → a < n → T (account_fits closed (λ q. f (account_place a q)))) → T (interval_fits n closed f)
  unfolding interval_fits
  interval-yes t each = and_both (ncc_fits f) (all n (λ a. account_fits closed (λ q. f (account_place a q)))) t (all_yes n (λ a. account_fits closed (λ q. f (account_place a q))) each)

  module _ (t : T (interval_fits n closed f)) where
    pub interval-own : T (padding_zero interval_table f) × T (row_fits Ncc (word_of_row f Ncc))
    unfolding interval_fits ncc_fits
    interval-own = (search (and_left, and_right), search (and_left, and_right))

    interval-account : (a : ℕ) → a < n → T (account_fits closed (λ q. f (account_place a q)))
    unfolding interval_fits
    interval-account = all_at n (λ a. account_fits closed (λ q. f (account_place a q))) (and_right (ncc_fits f) (all n (λ a. account_fits closed (λ q. f (account_place a q)))) t)

    pub interval-padding : (m : ℕ) → Padding n m → T (is_zero (f m))
    interval-padding m (of_interval q hq x) = padding-zero interval_table f interval-own.0 q hq x
    interval-padding m (of_account a q ha hq x) = padding-zero account_table (λ q. f (account_place a q)) (account-padding closed (λ q. f (account_place a q)) (interval-account a ha)) q hq x

    pub interval-row : (s : Section) (a : ℕ) → a < accounts_of s n → T (row_fits s (λ j. f (place s a j)))
    interval-row Vesting a h = (account-rows closed (λ q. f (account_place a q)) (interval-account a h)).0
    interval-row Meter a h = (account-rows closed (λ q. f (account_place a q)) (interval-account a h)).1
    interval-row Residual a h = (account-rows closed (λ q. f (account_place a q)) (interval-account a h)).2
    interval-row Ncc a h = interval-own.1

    pub interval-there : T closed → (a : ℕ) → a < n → T (not (is_zero (f (place Vesting a (flag_index Vesting))))) × T (not (is_zero (f (place Meter a (flag_index Meter)))))
    interval-there c a h = account-there (λ q. f (account_place a q)) closed c (interval-account a h)
