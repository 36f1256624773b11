-- The slots of a well-formed book's days are in range where their meter rows are there, and so are those that a close reads. Assumes nothing.
use Rattle.std.proofs.Math.Path.{◌≡◌}
use Rattle.std.specs.Prelude.{refl, not, List, ℕ, ◌+◌, ◌-◌, ◌*◌, ◌≤◌, ◌<◌, T, ℤ, pos, length, None}
use Rattle.std.proofs.Common.{ap, ◌∙◌, subst, ⊎_elim, arith}
use Rattle.std.proofs.Math.Bool.{true}
use Rattle.integer.specs.Below.{all}
use Rattle.integer.proofs.laws.BelowLaws.{lt_or_le}
use Rattle.integer.specs.Words.{word}
use Rattle.integer.proofs.laws.WordsLaws.{row_fits_lem, length_part}
use Rattle.rulebook.specs.declared.Section.TheVariants.{Meter}
use Rattle.rulebook.specs.declared.Kind.{Kind}
use Rattle.rulebook.specs.declared.Kind.TheVariants.{Quantity, Load}
use Rattle.rulebook.specs.Units.{last_day, between, in_range, positive, intervals}
use Rattle.rulebook.specs.Sections.{kind_of, accounts_of, Figure, BVQ, TVQ, UEGQ, MQ, NccLoad, figure_section, figure_place}
use Rattle.rulebook.specs.DayAmount.{settles_residual, residual_day}
use Rattle.rulebook.specs.Layout.{width, word_name, figure_index, flag_index, flag_word, cell_place, account_words, interval_length, interval_of, InWindow}
use Rattle.rulebook.specs.BookData.{entries_of, entry_named, book_data, terms_of, next_day}
use Rattle.rulebook.specs.WellFormed.{is_zero, row_fits, well_formed}
use Rattle.rulebook.specs.Close.{first_missing}
use Rattle.rulebook.specs.Demand3.{meter_of}
use Rattle.rulebook.specs.Bounds.{Sized}
use Rattle.rulebook.proofs.laws.TestLaws.{T-path, and_left, is_natural}
use Rattle.rulebook.proofs.laws.RowWordLaws.{Usable}
use Rattle.rulebook.proofs.laws.RangeLaws.{RangedEntries, data_sized, even}
use Rattle.rulebook.proofs.laws.RowFlagLaws.{word_flagged, row_flagged, row-by_flag}
use Rattle.rulebook.proofs.laws.FormedLaws.{opened_of, next_of, formed-fit}
use Rattle.rulebook.proofs.laws.BookSizeLaws.{book-ranged, D-inside, r_inside}
use Rattle.rulebook.proofs.laws.AmountLaws.{SameFigures}
use Rattle.rulebook.proofs.laws.SizeLaws.{same_sized}
use Rattle.rulebook.proofs.laws.IndexLaws.{tender-words}
use Rattle.rulebook.proofs.laws.SearchLaws.{needed-there}
use Rattle.amounts.specs.Cell.{cell_data, RangedCell}
use Rattle.amounts.specs.Day.{cell_at, SlotRanged}
use Rattle.closing.specs.Slots.{slot_words}
use Rattle.closing.proofs.laws.SlotsLaws.{slot-length, load_word, vesting-word, residual-word}
use Rattle.closing.proofs.laws.SlotDataLaws.{cell-alike, vesting-at}

-- ---- Meter rows

-- one that is there has a facility
meter-some : (f : ℕ → ℤ) → T (row_fits Meter f) → T (not (is_zero (f (flag_index Meter)))) → 1 ≤ positive (f (flag_index Meter))
unfolding row_flagged
meter-some f x y = ⊎_elim (λ h. h) (λ h. absurd (none h)) (lt_or_le 0 (positive (f (flag_index Meter))))
  where
    number : f (flag_index Meter) ≡ pos (positive (f (flag_index Meter)))
    number = (is_natural 0 4 (f (flag_index Meter))
        (and_left (between (pos 0) (pos 4) (f (flag_index Meter))) (all (width Meter) (λ j. word_flagged Meter (positive (f (flag_index Meter))) (word_name Meter j) (f j)))
        (subst T (row-by_flag Meter f) x))).0

    none : positive (f (flag_index Meter)) ≤ 0 → ⊥
    none h = let e : positive (f (flag_index Meter)) ≡ 0 = omega arith in subst (λ (z : ℤ). T (not (is_zero z))) (number ∙ ap pos e) y

-- ---- A day's slot

module _ (w : List ℤ) (t : T (well_formed w)) (d : ℕ) (inside : InWindow (terms_of w) (next_day w - (terms_of w).first) d) (dated : d ≤ last_day) where
  entries : RangedEntries (terms_of w).accounts (entries_of (terms_of w) w) d
  entries = book-ranged w t d inside dated

  -- a word that is a figure of this kind
  figure-passes : (g : Figure) (a i : ℕ) (k : Kind) {z : ℤ} → Usable g → a < accounts_of (figure_section g) (terms_of w).accounts → i < intervals
      → kind_of (figure_section g) (figure_place g) ≡ k → entry_named (entries_of (terms_of w) w) a d i g ≡ z → in_range k z ≡ true
  figure-passes g a i k u ha hi e f = rw (← e, ← f) (T-path _ (entries.ranged g a i u ha hi))

  interval-length : (i : ℕ) → i < intervals → length (interval_of (terms_of w).accounts (slot_words (terms_of w) w d) i) ≡ interval_length (terms_of w).accounts
  interval-length i hi =
      let n = (terms_of w).accounts in
      length_part (slot_words (terms_of w) w d) (i * interval_length n) (interval_length n) (omega (arith, slot-length w t d, row_fits_lem i intervals (interval_length n) hi))

  module _ (a i : ℕ) (ha : a < (terms_of w).accounts) (hi : i < intervals) where
    sized : Sized ((book_data (terms_of w) w).account a d i)
    sized = data_sized (terms_of w).accounts (entries_of (terms_of w) w) d entries a i ha hi

    alike : SameFigures ((book_data (terms_of w) w).account a d i) (cell_data (cell_at (terms_of w).accounts (slot_words (terms_of w) w d) a i))
    alike = cell-alike (terms_of w) w d a i ha hi sized.few

    cell-in_range : T (not (is_zero (word w (flag_word (terms_of w) Meter a d i)))) → RangedCell (cell_at (terms_of w).accounts (slot_words (terms_of w) w d) a i)
    cell-in_range there =
        let n = (terms_of w).accounts in
        record {
          whole = length_part (interval_of n (slot_words (terms_of w) w d) i) (cell_place a) account_words (omega (arith, interval-length i hi));
          sized = same_sized ((book_data (terms_of w) w).account a d i) (cell_data (cell_at n (slot_words (terms_of w) w d) a i)) alike sized;
          some = subst (λ (k : ℕ). 1 ≤ k) alike.facilities (meter-some (entries_of (terms_of w) w Meter a d i) ((formed-fit w t).rows Meter a d i inside ha hi) there);
          bvq = figure-passes BVQ a i Quantity tt ha hi refl (vesting-word (terms_of w) w d a i ha hi 1 (omega arith));
          tvq = λ k h. figure-passes (TVQ k) a i Quantity h ha hi (even (2 + 2 * k) (omega arith)).0
              (vesting-at (terms_of w) w d a i ha hi (figure_index (TVQ k)) (3 + 2 * k) (tender-words k h).0 (omega arith));
          uegq = figure-passes UEGQ a i Quantity tt ha hi refl (residual-word (terms_of w) w d a i ha hi 1 (omega arith));
          mq = figure-passes MQ a i Quantity tt ha hi refl (residual-word (terms_of w) w d a i ha hi 2 (omega arith));
        }

  -- with its meter rows
  pub slot-ranged : ((a i : ℕ) → a < (terms_of w).accounts → i < intervals → T (not (is_zero (word w (flag_word (terms_of w) Meter a d i)))))
      → SlotRanged (terms_of w).accounts (slot_words (terms_of w) w d)
  slot-ranged there = record {
    whole = slot-length w t d;
    each = λ i hi. record {
      whole = interval-length i hi;
      load = figure-passes NccLoad 0 i Load tt (omega arith) hi refl (load_word (terms_of w) w d i hi);
      cells = λ a ha. cell-in_range a i ha hi (there a i ha hi);
    };
  }

-- ---- The slots of a close

module _ (w : List ℤ) (t : T (well_formed w)) (left : next_day w ≤ last_day) where
  -- r's
  pub settled-ranged : T (settles_residual (terms_of w) (next_day w)) → SlotRanged (terms_of w).accounts (slot_words (terms_of w) w (residual_day (terms_of w) (next_day w)))
  settled-ranged x =
      let inside = r_inside w t left x in
      slot-ranged w t (residual_day (terms_of w) (next_day w)) inside (omega arith)
      (λ a i ha hi. (formed-fit w t).meters a (residual_day (terms_of w) (next_day w)) i inside (omega (arith, (opened_of w t).lag_from, (opened_of w t).first_from, (next_of w t).1)) ha hi)

  -- D's
  pub today-ranged : first_missing (terms_of w) w (next_day w) ≡ None → SlotRanged (terms_of w).accounts (slot_words (terms_of w) w (next_day w))
  today-ranged none = slot-ranged w t (next_day w) (D-inside w t left) left (λ a i ha hi. needed-there (terms_of w) w (next_day w) none Meter a (next_day w) i (meter_of ha) hi)
