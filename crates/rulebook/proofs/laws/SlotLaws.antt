-- What a day's fitting slot says of its words: flags, numbers in range. Assumes nothing.
use Rattle.std.proofs.Common.{subst, inl, inr, arith, lt→ltb}
use Rattle.std.specs.Prelude.{◌⊎◌, Bool, true, false, cond, not, List, ℕ, suc, ◌+◌, ◌≤◌, ◌<◌, ℤ, T, leb, ltb}
use Rattle.integer.specs.Below.{all, any}
use Rattle.rulebook.specs.declared.Section.{Section}
use Rattle.rulebook.specs.declared.Section.TheVariants.{Vesting, Meter}
use Rattle.rulebook.specs.declared.Terms.{Terms}
use Rattle.rulebook.specs.Units.{last_day, positive}
use Rattle.rulebook.specs.Sections.{accounts_of, per_interval, least_count, most_count, value_in_range, Figure, figure_section, figure_place}
use Rattle.rulebook.specs.Layout.{width, place, ring, interval_size, slot, row_word, Word, word_name, flag_index, figure_index, InWindow}
use Rattle.rulebook.specs.BookData.{entries_of}
use Rattle.rulebook.specs.WellFormed.{is_zero, row_blank, word_fits, row_counts, row_fits, interval_fits, interval_at, dated_fits, day_fits}
use Rattle.rulebook.specs.WindowWalk.{window_slot_fits}
use Rattle.rulebook.proofs.laws.TestLaws.{and_right, or_cases, is_zero_lem, is_number, all_at, any_some}
use Rattle.rulebook.proofs.laws.RowWordLaws.{Usable, figure-word, flag-inside}
use Rattle.rulebook.proofs.laws.LayoutLaws.{row_inside}
use Rattle.rulebook.proofs.laws.WalkLaws.{walk-day}
use Rattle.rulebook.proofs.laws.KeptLaws.{zero-ranged}
use Rattle.rulebook.proofs.laws.RangeLaws.{RangedEntries}
use Rattle.rulebook.proofs.laws.FitsLaws.{interval-row, interval-there}

pub row_in-interval : (o : Terms) (s : Section) (a j : ℕ) → a < accounts_of s o.accounts → j < width s → place s a j < interval_size o
unfolding interval_size
row_in-interval o s a j ha hj = row_inside o.accounts s a j ha hj

-- the words of a row that fits: all zero, or by name those of some count
pub fit_words : (s : Section) (f : ℕ → ℤ) → T (row_fits s f)
    → ((j : ℕ) → j < width s → T (is_zero (f j))) ⊎ ((c : ℕ) × (c < suc (most_count s)) × ((j : ℕ) → j < width s → T (word_fits s c (word_name s j) (f j))))
unfolding row_fits row_blank row_counts
fit_words s f t = or_cases (row_blank s f) (any (suc (most_count s)) (row_counts s f)) t
    (λ x. inl (all_at (width s) (λ j. is_zero (f j)) x))
    (λ x. let c = any_some (suc (most_count s)) (row_counts s f) x in
    inr (c.0, c.1, all_at (width s) (λ j. word_fits s c.0 (word_name s j) (f j)) (and_right (leb (least_count s) c.0) (all (width s) (λ j. word_fits s c.0 (word_name s j) (f j))) c.2)))

-- a row that fits has its figures in range
fit-ranged : (g : Figure) (f : ℕ → ℤ) → Usable g → T (row_fits (figure_section g) f) → T (value_in_range (figure_section g) (figure_place g) (f (figure_index g)))
fit-ranged g f u t = go (fit_words s f t)
  where
    s : Section
    s = figure_section g

    zero_in : T (is_zero (f (figure_index g))) → T (value_in_range (figure_section g) (figure_place g) (f (figure_index g)))
    zero_in x = rw (is_zero_lem (f (figure_index g)) x) (zero-ranged (figure_section g) (figure_place g))

    used : (b : Bool) → T (cond b (value_in_range (figure_section g) (figure_place g) (f (figure_index g))) (is_zero (f (figure_index g)))) → T (value_in_range (figure_section g) (figure_place g) (f (figure_index g)))
    used true x = x
    used false x = zero_in x

    go : ((j : ℕ) → j < width (figure_section g) → T (is_zero (f j))) ⊎ ((c : ℕ) × (c < suc (most_count (figure_section g))) × ((j : ℕ) → j < width (figure_section g) → T (word_fits (figure_section g) c (word_name (figure_section g) j) (f j))))
        → T (value_in_range (figure_section g) (figure_place g) (f (figure_index g)))
    go (inl x) = zero_in (x (figure_index g) (figure-word g u).inside)
    go (inr x) = used (ltb (figure_place g) (per_interval (figure_section g) x.0))
        (subst (λ (n : Word). T (word_fits (figure_section g) x.0 n (f (figure_index g)))) (figure-word g u).named (x.2 (figure_index g) (figure-word g u).inside))

-- a meter row that fits has at most four facilities
fit-few : (f : ℕ → ℤ) → T (row_fits Meter f) → positive (f (flag_index Meter)) ≤ 4
fit-few f t = go (fit_words Meter f t)
  where
    go : ((j : ℕ) → j < width Meter → T (is_zero (f j))) ⊎ ((c : ℕ) × (c < 5) × ((j : ℕ) → j < width Meter → T (word_fits Meter c (word_name Meter j) (f j)))) → positive (f (flag_index Meter)) ≤ 4
    go (inl x) = rw (is_zero_lem (f (flag_index Meter)) (x (flag_index Meter) (flag-inside Meter))) (omega arith)
    go (inr x) = rw (is_number x.0 (f (flag_index Meter)) (x.2 (flag_index Meter) (flag-inside Meter))) (omega (arith, x.1))

-- a day of the window, by the walk over its places
module _ (o : Terms) (w : List ℤ) (k : ℕ) (t : T (all (ring o) (window_slot_fits o w k))) (d : ℕ) (hd : InWindow o k d) (last : d ≤ last_day) where
  interval-fits_at : (i : ℕ) → i < 48 → T (interval_fits o.accounts (ltb d (o.first + k)) (interval_at o w (slot o d) i))
  unfolding day_fits dated_fits
  interval-fits_at = all_at 48 (λ i. interval_fits o.accounts (ltb d (o.first + k)) (interval_at o w (slot o d) i)) (walk-day o w k t d hd last)

  pub closed-there : d < o.first + k → (a i : ℕ) → a < o.accounts → i < 48
      → T (not (is_zero (interval_at o w (slot o d) i (place Vesting a (flag_index Vesting))))) × T (not (is_zero (interval_at o w (slot o d) i (place Meter a (flag_index Meter)))))
  closed-there x a i ha hi = interval-there o.accounts (ltb d (o.first + k)) (interval_at o w (slot o d) i) (interval-fits_at i hi) (lt→ltb d (o.first + k) x) a ha

  pub row_fits-at : (s : Section) (a i : ℕ) → a < accounts_of s o.accounts → i < 48 → T (row_fits s (λ j. interval_at o w (slot o d) i (place s a j)))
  row_fits-at s a i ha hi = interval-row o.accounts (ltb d (o.first + k)) (interval_at o w (slot o d) i) (interval-fits_at i hi) s a ha

  -- its words are in range
  pub entries-ranged : RangedEntries o.accounts (entries_of o w) d
  unfolding row_word
  entries-ranged = record {
    ranged = λ g a i u ha hi. fit-ranged g (λ j. interval_at o w (slot o d) i (place (figure_section g) a j)) u (row_fits-at (figure_section g) a i ha hi);
    few = λ a i ha hi. fit-few (λ j. interval_at o w (slot o d) i (place Meter a j)) (row_fits-at Meter a i ha hi);
  }
