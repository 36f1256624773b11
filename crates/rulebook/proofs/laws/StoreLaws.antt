-- What the definitions store word by word is what a fill, a lent part and a grid of rows leave: the forms in which code writes. Assumes nothing.
use Rattle.std.specs.Prelude.{◌≡◌, cond, List, ℤ, pos, length}
use Rattle.std.proofs.Math.Path.{refl}
use Rattle.std.proofs.Common.{sym, ap, ◌∙◌, ⊎_elim, zero-add, add-one, arith}
use Prim.Native.Nat.{ℕ, zero, suc, ◌+◌, ◌-◌, ◌*◌, ◌≤◌, ◌<◌}
use Rattle.std.proofs.Math.Nat.{add-mul}
use Rattle.integer.specs.Below.{turns, tabulate}
use Rattle.integer.proofs.laws.BelowLaws.{lt_or_le, tabulate-of}
use Rattle.integer.specs.Words.{word, filled, inside, patched, on_part, grid_row, grid}
use Rattle.integer.proofs.laws.WordsLaws.{filled_zero, filled-suc, part-patched, inside-yes, inside-before, inside-after}
use Rattle.rulebook.specs.declared.Terms.{Terms}
use Rattle.rulebook.specs.declared.Section.{Section}
use Rattle.rulebook.specs.declared.Section.TheVariants.{Vesting, Meter, Residual, Ncc}
use Rattle.rulebook.specs.Sections.{accounts_of}
use Rattle.rulebook.specs.Layout.{stored, width, ring, size, interval_size, interval_word, row_word, slot}
use Rattle.rulebook.specs.File.{Row}
use Rattle.rulebook.specs.Submit.{entry, entry_stored, row_stored}
use Rattle.rulebook.proofs.laws.IndexLaws.{row-run}
use Rattle.rulebook.proofs.laws.WordLaws.{length-stored, stored-in, stored-out, row_word-inside, length-row_stored}

-- ---- Words from the front, and a part

pub stored-filled : (w : List ℤ) (n : ℕ) (f : ℕ → ℤ) → n ≤ length w → stored w 0 n f ≡ filled n f w
unfolding stored
stored-filled w zero f h = sym (filled_zero f w)
stored-filled w (suc n) f h = rw (stored-filled w n f (omega arith), zero-add n) (sym (ap (λ (m : ℕ). filled m f w) (sym (add-one n)) ∙ filled-suc n f w (omega arith)))

module _ (w : List ℤ) (at n : ℕ) (f : ℕ → ℤ) (fits : at + n ≤ length w) where
  stored_at : (k : ℕ) → k < length w → word (stored w at n f) k ≡ cond (inside at (at + n) k) (f (k - at)) (word w k)
  stored_at k h = ⊎_elim before (λ x. ⊎_elim (within x) after (lt_or_le k (at + n))) (lt_or_le k at)
    where
      before : k < at → word (stored w at n f) k ≡ cond (inside at (at + n) k) (f (k - at)) (word w k)
      before x = rw (inside-before at (at + n) k x) (stored-out w at n f k (λ j hj e. omega arith))

      within : at ≤ k → k < at + n → word (stored w at n f) k ≡ cond (inside at (at + n) k) (f (k - at)) (word w k)
      within x y =
          let e : at + (k - at) ≡ k = omega arith in
          rw (inside-yes at (at + n) k x y) (ap (λ (m : ℕ). word (stored w at n f) m) (sym e) ∙ stored-in w at n f (k - at) (omega arith) (omega arith))

      after : at + n ≤ k → word (stored w at n f) k ≡ cond (inside at (at + n) k) (f (k - at)) (word w k)
      after x = rw (inside-after at (at + n) k x) (stored-out w at n f k (λ j hj e. omega arith))

  pub stored-patched : stored w at n f ≡ patched (pos 0) at (at + n) (λ k. f (k - at)) w
  stored-patched = tabulate-of (pos 0) (stored w at n f) (length w) (λ k. cond (inside at (at + n) k) (f (k - at)) (word w k)) (length-stored w at n f) stored_at

  pub stored-part : stored w at n f ≡ on_part at (at + n) (λ p. tabulate (length p) f) w
  stored-part = stored-patched ∙ sym (part-patched (pos 0) at (at + n) f w (omega arith) fits)

width_some : (s : Section) → width s ≡ 0 → ⊥
width_some Vesting e = omega arith
width_some Meter e = omega arith
width_some Residual e = omega arith
width_some Ncc e = omega arith

-- ---- A row: one part an interval, an interval's words apart

module _ (o : Terms) (row : Row) (some : zero < ring o) (account : row.account < accounts_of row.section o.accounts) where
  -- the first n words at interval i
  entry-stored : (i n : ℕ) (w : List ℤ) → n ≤ width row.section → entry_stored o row i n w ≡ stored w (row_word o row.section row.account row.day i 0) n (entry row i)
  unfolding entry_stored stored
  entry-stored i zero w h = refl
  entry-stored i (suc n) w h = rw (entry-stored i n w (omega arith), row-run o row.section row.account row.day i n h)

  -- interval i's words start i intervals after those of interval 0
  interval-later : (i : ℕ) → row_word o row.section row.account row.day i 0 ≡ row_word o row.section row.account row.day 0 0 + i * interval_size o
  unfolding row_word interval_word
  interval-later i = omega (arith, add-mul (slot o row.day * 48) i (interval_size o), add-mul (slot o row.day * 48) 0 (interval_size o))

  row_fits_lem : (i : ℕ) → i < 48 → row_word o row.section row.account row.day i 0 + width row.section ≤ size o
  row_fits_lem i hi = go (width row.section) refl
    where
      front : zero < width row.section → row_word o row.section row.account row.day i 0 + width row.section ≤ size o
      front h =
          let l = row_word-inside o row.section row.day {a = row.account} {i = i} {j = width row.section - 1} some account hi (omega arith) in
          omega (arith, row-run o row.section row.account row.day i (width row.section - 1) (omega arith))

      empty : width row.section ≡ 0 → row_word o row.section row.account row.day i 0 + width row.section ≤ size o
      empty e = absurd (width_some row.section e)

      go : (n : ℕ) → width row.section ≡ n → row_word o row.section row.account row.day i 0 + width row.section ≤ size o
      go zero e = empty e
      go (suc n) e = front (omega arith)

  pub row-grid : (n : ℕ) (w : List ℤ) → n ≤ 48 → size o ≤ length w
      → row_stored o row n w ≡ grid (row_word o row.section row.account row.day 0 0) (interval_size o) (width row.section) (entry row) n w
  unfolding row_stored grid grid_row turns
  row-grid zero w h l = refl
  row-grid (suc n) w h l =
      entry-stored n (width row.section) (row_stored o row n w) (omega arith)
      ∙ stored-part (row_stored o row n w) (row_word o row.section row.account row.day n 0) (width row.section) (entry row n) (omega (arith, row_fits_lem n h, length-row_stored o row n w))
      ∙ rw (interval-later n) (ap (on_part at (at + width row.section) (λ p. tabulate (length p) (entry row n))) (row-grid n w (omega arith) l))
    where
      at : ℕ
      at = row_word o row.section row.account row.day 0 0 + n * interval_size o
