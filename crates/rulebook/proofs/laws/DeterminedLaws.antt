-- Leaves says every word: two books that an accepted call can leave by it, of one book before, are the same. Assumes nothing.
use Rattle.std.specs.Prelude.{◌≡◌, ◌≢◌, ◌⊎◌, List, [], ◌∷◌, ℕ, zero, suc, ◌+◌, ◌-◌, ◌*◌, ◌≤◌, ◌<◌, ℤ, pos, neg_ℤ, ◌+ℤ◌, ◌-ℤ◌, ◌*ℤ◌}
use Rattle.std.proofs.Common.{sym, ap, ◌∙◌, subst, inl, inr, not-suc-le-zero, arith, ext_get_or}
use Rattle.std.proofs.Math.Decide.{ℕ_discrete, dec_le}
use Rattle.integer.specs.Below.{Each}
use Rattle.integer.proofs.laws.BelowLaws.{lt_or_le, sum_ℤ-cong}
use Rattle.integer.specs.Words.{word}
use Rattle.rulebook.specs.declared.Terms.{Terms}
use Rattle.rulebook.specs.DayAmount.{mssl_exact}
use Rattle.rulebook.specs.BookData.{book_data}
use Rattle.rulebook.specs.Numbers.{Answer}
use Rattle.rulebook.specs.NamedRows.{NamedRow}
use Rattle.rulebook.specs.Leaves.{day_index, CloseLeaves, word_count, row_index, Replaced, NotNamed, SubmitLeaves}
use Rattle.rulebook.proofs.laws.TestLaws.{below_suc}

-- ---- Whether an index is one of those named

record SomeBelow (n : ℕ) (P : ℕ → Type 0) : Type 0 where
  at : ℕ
  below : at < n
  holds : P at

some_below : (n : ℕ) (P : ℕ → Type 0) → ((i : ℕ) → Dec (P i)) → Dec (SomeBelow n P)
some_below zero P d = no (λ x. not-suc-le-zero x.below)
some_below (suc n) P d = go (d n) (some_below n P d)
  where
    go : Dec (P n) → Dec (SomeBelow n P) → Dec (SomeBelow (suc n) P)
    go (yes p) b = yes (record { at = n; below = omega arith; holds = p })
    go (no p) (yes x) = yes (record { at = x.at; below = omega (arith, x.below); holds = x.holds })
    go (no p) (no q) = no (λ x. by x (below_suc x.below))
      where
        by : (x : SomeBelow (suc n) P) → (x.at < n) ⊎ (x.at ≡ n) → ⊥
        by x (inl l) = q (record { at = x.at; below = l; holds = x.holds })
        by x (inr e) = p (subst P e x.holds)

-- k is f i j, i below n and j below m
one_of : (n m k : ℕ) (f : ℕ → ℕ → ℕ) → Dec (SomeBelow n (λ i. SomeBelow m (λ j. k ≡ f i j)))
one_of n m k f = some_below n (λ i. SomeBelow m (λ j. k ≡ f i j)) (λ i. some_below m (λ j. k ≡ f i j) (λ j. ℕ_discrete k (f i j)))

-- ---- A file

module _ (o : Terms) (after after' : List ℤ) (n : ℕ) where
  row_same : (rows : List NamedRow) → Each (Replaced o after) rows → Each (Replaced o after') rows → (Each (NotNamed o n) rows → word after n ≡ word after' n) → word after n ≡ word after' n
  row_same [] x y f = f tt
  row_same (r ∷ rows) x y f = go (row_same rows x.1 y.1) (one_of 48 (word_count r.section) n (row_index o r))
    where
      go : ((Each (NotNamed o n) rows → word after n ≡ word after' n) → word after n ≡ word after' n) → Dec (SomeBelow 48 (λ i. SomeBelow (word_count r.section) (λ j. n ≡ row_index o r i j)))
          → word after n ≡ word after' n
      go later (yes z) =
          let i = z.at in
          let j = z.holds.at in
          rw z.holds.holds (x.0 i j z.below z.holds.below ∙ sym (y.0 i j z.below z.holds.below))
      go later (no z) = later (λ g. f ((λ i j hi hj e. z (record { at = i; below = hi; holds = record { at = j; below = hj; holds = e } })), g))

pub submit-determined : (o : Terms) (rows : List NamedRow) (before after after' : List ℤ) → SubmitLeaves o rows before after → SubmitLeaves o rows before after' → after ≡ after'
submit-determined o rows before after after' x y = ext_get_or (pos 0) after after' (x.long ∙ sym y.long)
    (λ n h. row_same o after after' n rows x.replaced y.replaced (λ f. x.others n f ∙ sym (y.others n f)))

-- ---- A close

answer-same : (x y : Answer) → x.number ≡ y.number → x.position ≡ y.position → x.day ≡ y.day → x.count ≡ y.count → x.difference ≡ y.difference → x ≡ y
answer-same x y a b c d e = λ i. record { number = a i; position = b i; day = c i; count = d i; difference = e i }

module _ (o : Terms) (C : ℕ) (before statement : List ℤ) (answer answer' : Answer) (after after' written written' : List ℤ)
    (x : CloseLeaves o C before statement answer after written) (y : CloseLeaves o C before statement answer' after' written') where
  amounts : (a : ℕ) → a < o.accounts → word written a ≡ word written' a
  amounts a h = x.amounts a h ∙ sym (y.amounts a h)

  mssl : word written o.accounts ≡ word written' o.accounts
  mssl = x.mssl_amount ∙ ap neg_ℤ (sum_ℤ-cong o.accounts (word written) (word written') amounts) ∙ sym y.mssl_amount

  differences : answer.difference ≡ answer'.difference
  differences = x.difference ∙ ap (λ (v : ℤ). pos 1000 *ℤ v -ℤ mssl_exact o (book_data o before) C) mssl ∙ sym y.difference

  answers : answer ≡ answer'
  answers = answer-same answer answer' (x.number ∙ sym y.number) (x.position ∙ sym y.position) (x.day ∙ sym y.day) (go (lt_or_le C (o.first + o.lag))) differences
    where
      go : (C < o.first + o.lag) ⊎ (o.first + o.lag ≤ C) → answer.count ≡ answer'.count
      go (inl h) = x.no_residuals h ∙ sym (y.no_residuals h)
      go (inr h) = x.residuals h ∙ sym (y.residuals h)

  statements : written ≡ written'
  statements = ext_get_or (pos 0) written written' (x.beyond.long ∙ sym y.beyond.long) (λ n h. go n (lt_or_le n o.accounts) (lt_or_le o.accounts n))
    where
      go : (n : ℕ) → (n < o.accounts) ⊎ (o.accounts ≤ n) → (o.accounts < n) ⊎ (n ≤ o.accounts) → word written n ≡ word written' n
      go n (inl h) l = amounts n h
      go n (inr h) (inl l) = x.beyond.words n (omega arith) ∙ sym (y.beyond.words n (omega arith))
      go n (inr h) (inr l) = let e : n ≡ o.accounts = omega arith in rw e mssl

  others : (n : ℕ) → n ≢ 5 → n ≢ 6 → n ≢ 8 → (SomeBelow o.accounts (λ a. n ≡ 64 + 8 * a) → ⊥)
      → (o.first + o.lag ≤ C → SomeBelow 48 (λ i. SomeBelow (4 + 24 * o.accounts) (λ m. n ≡ day_index o (C - o.lag) i m)) → ⊥) → word after n ≡ word after' n
  others n a b e c d = x.others n a b e balance slot ∙ sym (y.others n a b e balance slot)
    where
      balance : (a : ℕ) → a < o.accounts → n ≢ 64 + 8 * a
      balance a h f = c (record { at = a; below = h; holds = f })

      slot : o.first + o.lag ≤ C → (i m : ℕ) → i < 48 → m < 4 + 24 * o.accounts → n ≢ day_index o (C - o.lag) i m
      slot h i m hi hm e = d h (record { at = i; below = hi; holds = record { at = m; below = hm; holds = e } })

  books : after ≡ after'
  books = ext_get_or (pos 0) after after' (x.long ∙ sym y.long)
      (λ n h. go n (ℕ_discrete n 5) (ℕ_discrete n 6) (ℕ_discrete n 8) (some_below o.accounts (λ a. n ≡ 64 + 8 * a) (λ a. ℕ_discrete n (64 + 8 * a)))
      (dec_le (o.first + o.lag) C) (one_of 48 (4 + 24 * o.accounts) n (day_index o (C - o.lag))))
    where
      go : (n : ℕ) → Dec (n ≡ 5) → Dec (n ≡ 6) → Dec (n ≡ 8) → Dec (SomeBelow o.accounts (λ a. n ≡ 64 + 8 * a)) → Dec (o.first + o.lag ≤ C)
          → Dec (SomeBelow 48 (λ i. SomeBelow (4 + 24 * o.accounts) (λ m. n ≡ day_index o (C - o.lag) i m))) → word after n ≡ word after' n
      go n (yes e) b f c d z = rw e (x.next_day ∙ sym y.next_day)
      go n (no a) (yes e) f c d z = rw e (x.mssl ∙ ap (λ (v : ℤ). word before 6 +ℤ v) mssl ∙ sym y.mssl)
      go n (no a) (no b) (yes e) c d z = rw e (x.differences ∙ ap (λ (v : ℤ). word before 8 +ℤ v) differences ∙ sym y.differences)
      go n (no a) (no b) (no f) (yes p) d z = rw p.holds
          (x.balances p.at p.below ∙ ap (λ (v : ℤ). word before (64 + 8 * p.at) +ℤ v) (amounts p.at p.below) ∙ sym (y.balances p.at p.below))
      go n (no a) (no b) (no f) (no c) (yes d) (yes z) = rw z.holds.holds
          (x.blank d z.at z.holds.at z.below z.holds.below ∙ sym (y.blank d z.at z.holds.at z.below z.holds.below))
      go n (no a) (no b) (no f) (no c) (yes d) (no z) = others n a b f c (λ q. z)
      go n (no a) (no b) (no f) (no c) (no d) z = others n a b f c (λ q. absurd (d q))

  pub close-determined : (after ≡ after') × (written ≡ written') × (answer ≡ answer')
  close-determined = (books, statements, answers)
