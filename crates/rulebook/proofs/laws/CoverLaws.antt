-- Every word of an interval is a row's or padding. Assumes nothing.
use Rattle.std.specs.Prelude.{◌≡◌, refl, ◌⊎◌, ℕ, ◌+◌, ◌-◌, ◌*◌, ◌/◌, ◌%◌, ◌<◌, T, length, get_or}
use Rattle.std.proofs.Common.{sym, ap, subst, inl, inr, arith}
use Rattle.std.proofs.Math.Decide.{dec_lt}
use Rattle.rulebook.specs.declared.Section.{Section}
use Rattle.rulebook.specs.declared.Section.TheVariants.{Vesting, Meter, Residual, Ncc}
use Rattle.rulebook.specs.Sections.{accounts_of}
use Rattle.rulebook.specs.Layout.{padding, is_padding, interval_table, account_table, interval_words, account_words, account_place, table_of, width, table_place, place}
use Rattle.rulebook.specs.Ledger.{Padding, of_interval, of_account}
use Rattle.rulebook.proofs.laws.RowWordLaws.{Named, account-cover, interval-cover}

-- a word of an interval is a row's or padding
pub data Cover (n m : ℕ) : Type 0 where
  of_row : (s : Section) (a j : ℕ) → a < accounts_of s n → j < width s → m ≡ place s a j → Cover n m
  of_padding : (m' : ℕ) → Padding n m' → m ≡ m' → Cover n m

not_own : account_table ≡ interval_table → ⊥
not_own e = let x : account_words ≡ interval_words = ap length e in omega arith

-- words of the interval itself, and of an account
own-cover : (n q : ℕ) → q < interval_words → Cover n q
own-cover n q h = go (interval-cover q h)
  where
    row : (x : Named interval_table q) → (s : Section) → x.section ≡ s → Cover n q
    row x Ncc e = of_row Ncc 0 x.word (omega arith) (subst (λ (y : Section). x.word < width y) e x.inside) (sym (subst (λ (y : Section). table_place y x.word ≡ q) e x.place))
    row x Vesting e = absurd (not_own (subst (λ (y : Section). table_of y ≡ interval_table) e x.own))
    row x Meter e = absurd (not_own (subst (λ (y : Section). table_of y ≡ interval_table) e x.own))
    row x Residual e = absurd (not_own (subst (λ (y : Section). table_of y ≡ interval_table) e x.own))

    go : T (is_padding (get_or interval_table q padding)) ⊎ Named interval_table q → Cover n q
    go (inl t) = of_padding q (of_interval q h t) refl
    go (inr x) = row x x.section refl

account-cover_at : (n a q : ℕ) → a < n → q < account_words → Cover n (account_place a q)
account-cover_at n a q ha h = go (account-cover q h)
  where
    place_is : (x : Named account_table q) (s : Section) → x.section ≡ s → account_place a q ≡ account_place a (table_place s x.word)
    place_is x s e = ap (account_place a) (sym (subst (λ (y : Section). table_place y x.word ≡ q) e x.place))

    inside_is : (x : Named account_table q) (s : Section) → x.section ≡ s → x.word < width s
    inside_is x s e = subst (λ (y : Section). x.word < width y) e x.inside

    row : (x : Named account_table q) → (s : Section) → x.section ≡ s → Cover n (account_place a q)
    row x Vesting e = of_row Vesting a x.word ha (inside_is x Vesting e) (place_is x Vesting e)
    row x Meter e = of_row Meter a x.word ha (inside_is x Meter e) (place_is x Meter e)
    row x Residual e = of_row Residual a x.word ha (inside_is x Residual e) (place_is x Residual e)
    row x Ncc e = absurd (not_own (sym (subst (λ (y : Section). table_of y ≡ account_table) e x.own)))

    go : T (is_padding (get_or account_table q padding)) ⊎ Named account_table q → Cover n (account_place a q)
    go (inl t) = of_padding (account_place a q) (of_account a q ha h t) refl
    go (inr x) = row x x.section refl

pub cover : (n m : ℕ) → m < interval_words + account_words * n → Cover n m
cover n m h = go (dec_lt m interval_words)
  where
    go : Dec (m < interval_words) → Cover n m
    go (yes x) = own-cover n m x
    go (no x) =
        let e : account_place ((m - interval_words) / account_words) ((m - interval_words) % account_words) ≡ m = omega arith in
        subst (Cover n) e (account-cover_at n ((m - interval_words) / account_words) ((m - interval_words) % account_words) (omega arith) (omega arith))
