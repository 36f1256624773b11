-- What a write leaves at each index of a book. Assumes nothing.
use Rattle.std.specs.Prelude.{◌≡◌, ◌⊎◌, List, ℤ, pos, length}
use Rattle.std.proofs.Math.Path.{refl}
use Rattle.std.proofs.Common.{◌∙◌, inl, inr, not-suc-le-zero, arith, get_or-set_same}
use Prim.Native.Nat.{ℕ, zero, suc, ◌+◌, ◌≤◌, ◌<◌}
use Rattle.std.proofs.Math.ListN.{length-set}
use Rattle.std.proofs.Math.Seq.{get_or-set_other}
use Rattle.integer.specs.Words.{word}
use Rattle.rulebook.specs.declared.Section.{Section}
use Rattle.rulebook.specs.declared.Terms.{Terms}
use Rattle.rulebook.specs.Sections.{accounts_of}
use Rattle.rulebook.specs.Layout.{stored, width, interval_size, ring, size, row_word}
use Rattle.rulebook.specs.File.{Row}
use Rattle.rulebook.specs.Submit.{entry, entry_stored, row_stored}
use Rattle.rulebook.proofs.laws.TestLaws.{below_suc}
use Rattle.rulebook.proofs.laws.LayoutLaws.{rows_apart, interval-inside, row_inside, slot-inside}

later : {i n : ℕ} → i ≡ n → i < n → ⊥
later e h = omega arith

pub length-stored : (w : List ℤ) (at n : ℕ) (f : ℕ → ℤ) → length (stored w at n f) ≡ length w
unfolding stored
length-stored w at zero f = refl
length-stored w at (suc n) f = length-set (stored w at n f) (at + n) (f n) ∙ length-stored w at n f

pub stored-out : (w : List ℤ) (at n : ℕ) (f : ℕ → ℤ) (m : ℕ) → ((j : ℕ) → j < n → m ≡ at + j → ⊥) → word (stored w at n f) m ≡ word w m
unfolding stored
stored-out w at zero f m h = refl
stored-out w at (suc n) f m h =
    get_or-set_other (stored w at n f) (at + n) m (f n) (pos 0) (h n (omega arith)) ∙ stored-out w at n f m (λ j hj. h j (omega arith))

pub stored-in : (w : List ℤ) (at n : ℕ) (f : ℕ → ℤ) (j : ℕ) → at + j < length w → j < n → word (stored w at n f) (at + j) ≡ f j
unfolding stored
stored-in w at zero f j b h = absurd (not-suc-le-zero h)
stored-in w at (suc n) f j b h = go (λ x. stored-in w at n f j b x) (below_suc h)
  where
    go : (j < n → word (stored w at n f) (at + j) ≡ f j) → (j < n) ⊎ (j ≡ n) → word (stored w at (suc n) f) (at + j) ≡ f j
    go ih (inl x) = get_or-set_other (stored w at n f) (at + n) (at + j) (f n) (pos 0) (omega arith) ∙ ih x
    go ih (inr x) = rw x (get_or-set_same (stored w at n f) (at + n) (f n) (pos 0) (omega (arith, length-stored w at n f)))

module _ (o : Terms) where
  pub row_word-inside : (s : Section) (d : ℕ) {a i j : ℕ} → zero < ring o → a < accounts_of s o.accounts → i < 48 → j < width s → row_word o s a d i j < size o
  unfolding row_word interval_size
  row_word-inside s d {a} {i} {j} p ha hi hj = interval-inside o (slot-inside o d p) hi (row_inside o.accounts s a j ha hj)

  module _ (row : Row) where
    length-entry_stored : (i n : ℕ) (w : List ℤ) → length (entry_stored o row i n w) ≡ length w
    unfolding entry_stored
    length-entry_stored i zero w = refl
    length-entry_stored i (suc n) w = length-set (entry_stored o row i n w) _ _ ∙ length-entry_stored i n w

    pub length-row_stored : (n : ℕ) (w : List ℤ) → length (row_stored o row n w) ≡ length w
    unfolding row_stored
    length-row_stored zero w = refl
    length-row_stored (suc n) w = length-entry_stored n (width row.section) (row_stored o row n w) ∙ length-row_stored n w

    -- a word that is none of the row's stays
    entry-out : (i n : ℕ) (w : List ℤ) (m : ℕ) → ((j : ℕ) → j < n → m ≡ row_word o row.section row.account row.day i j → ⊥) → word (entry_stored o row i n w) m ≡ word w m
    unfolding entry_stored
    entry-out i zero w m h = refl
    entry-out i (suc n) w m h = get_or-set_other (entry_stored o row i n w) _ m _ (pos 0) (h n (omega arith)) ∙ entry-out i n w m (λ j hj. h j (omega arith))

    pub row_out : (n : ℕ) (w : List ℤ) (m : ℕ)
        → ((i j : ℕ) → i < n → j < width row.section → m ≡ row_word o row.section row.account row.day i j → ⊥)
        → word (row_stored o row n w) m ≡ word w m
    unfolding row_stored
    row_out zero w m h = refl
    row_out (suc n) w m h =
        entry-out n (width row.section) (row_stored o row n w) m (λ j hj e. h n j (omega arith) hj e) ∙ row_out n w m (λ i j hi hj. h i j (omega arith) hj)

    -- a word that is the row's is its entry
    module _ (p : zero < ring o) (ha : row.account < accounts_of row.section o.accounts) where
      apart : (i i' j j' : ℕ) → i < 48 → i' < 48 → j < width row.section → j' < width row.section
          → row_word o row.section row.account row.day i j ≡ row_word o row.section row.account row.day i' j' → (i ≡ i') × (j ≡ j')
      apart i i' j j' hi hi' hj hj' e =
          let x = rows_apart o row.section row.section row.account row.account row.day row.day i i' j j' ha ha hi hi' hj hj' e in
          (x.interval, x.row.word)

      entry_in : (i n : ℕ) (w : List ℤ) → i < 48 → n ≤ width row.section → size o ≤ length w → (j : ℕ) → j < n
          → word (entry_stored o row i n w) (row_word o row.section row.account row.day i j) ≡ entry row i j
      unfolding entry_stored
      entry_in i zero w hi b l j hj = absurd (not-suc-le-zero hj)
      entry_in i (suc n) w hi b l j hj = go (λ x. entry_in i n w hi (omega arith) l j x) (below_suc hj)
        where
          go : (j < n → word (entry_stored o row i n w) (row_word o row.section row.account row.day i j) ≡ entry row i j) → (j < n) ⊎ (j ≡ n)
              → word (entry_stored o row i (suc n) w) (row_word o row.section row.account row.day i j) ≡ entry row i j
          go ih (inl x) = get_or-set_other (entry_stored o row i n w) _ _ _ (pos 0) (λ e. later (apart i i j n hi hi (omega arith) b e).1 x) ∙ ih x
          go ih (inr x) = rw x (get_or-set_same (entry_stored o row i n w) _ _ (pos 0)
              (omega (arith, row_word-inside row.section row.day p ha hi b, length-entry_stored i n w)))

      pub row_in : (n : ℕ) (w : List ℤ) → n ≤ 48 → size o ≤ length w → (i j : ℕ) → i < n → j < width row.section
          → word (row_stored o row n w) (row_word o row.section row.account row.day i j) ≡ entry row i j
      unfolding row_stored
      row_in zero w b l i j hi hj = absurd (not-suc-le-zero hi)
      row_in (suc n) w b l i j hi hj = go (λ x. row_in n w (omega arith) l i j x hj) (below_suc hi)
        where
          go : (i < n → word (row_stored o row n w) (row_word o row.section row.account row.day i j) ≡ entry row i j) → (i < n) ⊎ (i ≡ n)
              → word (row_stored o row (suc n) w) (row_word o row.section row.account row.day i j) ≡ entry row i j
          go ih (inl x) = entry-out n (width row.section) (row_stored o row n w) _ (λ j' hj' e. later (apart i n j j' (omega arith) b hj hj' e).0 x) ∙ ih x
          go ih (inr x) = rw x (entry_in n (width row.section) (row_stored o row n w) b (omega arith) (omega (arith, length-row_stored n w)) j hj)
