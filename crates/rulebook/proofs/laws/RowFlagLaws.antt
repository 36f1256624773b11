-- A row fits by its flag alone: the flag in range, as many figures in range as it says, the rest zero. The form in which code judges. Assumes nothing.
use Rattle.std.specs.Prelude.{◌≡◌, refl, Bool, true, false, cond, not, ◌&&◌, ◌||◌, ℕ, suc, ◌-◌, ◌*◌, ◌≤◌, ◌<◌, leb, ltb, eqb, ℤ}
use Rattle.std.proofs.Common.{sym, ap, ◌∙◌, arith, le-ltb, le→leb, eqb→eq}
use Rattle.std.proofs.Math.Path.{subst}
use Rattle.std.proofs.Math.Logic.{⊎_elim}
use Rattle.std.proofs.Math.Dec.{T}
use Rattle.std.proofs.Math.IntN.{pos}
use Rattle.integer.specs.Below.{fold, all, any}
use Rattle.integer.proofs.laws.BelowLaws.{lt_or_le}
use Rattle.rulebook.specs.declared.Section.{Section}
use Rattle.rulebook.specs.declared.Section.TheVariants.{Vesting, Meter, Residual, Ncc}
use Rattle.rulebook.specs.Units.{between, positive}
use Rattle.rulebook.specs.Sections.{least_count, most_count, per_interval, value_in_range, figure_place}
use Rattle.rulebook.specs.Layout.{Word, flag, figure, padding, is_flag, present, width, word_name, flag_index}
use Rattle.rulebook.specs.WellFormed.{is_zero, row_blank, word_fits, row_counts, row_fits}
use Rattle.rulebook.proofs.laws.TestLaws.{tests_same, and_left, and_right, and_both, or_left, or_right, or_cases, between-yes, is_natural, is_number, is_zero_lem, all_yes, any-yes, all_at, any_some}
use Rattle.rulebook.proofs.laws.RowWordLaws.{flag-inside, flag-named}

-- ---- Flags

-- at most
abbrev pub most_flag : Section → ℕ
most_flag s = present s (most_count s)

-- how many figures of an interval a flag says are there
abbrev pub flagged : Section → ℕ → ℕ
flagged Vesting v = 2 * v
flagged Meter v = 2 * v
flagged Residual v = 4 * v
flagged Ncc v = v

-- a word by its name, where the row's flag is v
abbrev pub word_flagged : Section → ℕ → Word → ℤ → Bool
word_flagged s v (flag t) z = true
word_flagged s v (figure g) z = cond (ltb (figure_place g) (flagged s v)) (value_in_range s (figure_place g) z) (is_zero z)
word_flagged s v padding z = is_zero z

unfoldable pub row_flagged : Section → (ℕ → ℤ) → Bool
row_flagged s f = between (pos 0) (pos (most_flag s)) (f (flag_index s)) && all (width s) (λ j. word_flagged s (positive (f (flag_index s))) (word_name s j) (f j))

-- ---- Flags and counts

flagged-none : (s : Section) → flagged s 0 ≡ 0
flagged-none Vesting = refl
flagged-none Meter = refl
flagged-none Residual = refl
flagged-none Ncc = refl

none_flagged : (s : Section) (k : ℕ) → ltb k (flagged s 0) ≡ false
none_flagged s k = rw (flagged-none s) (le-ltb k 0 (omega arith))

flagged-present : (s : Section) (c : ℕ) → flagged s (present s c) ≡ per_interval s c
flagged-present Vesting c = omega arith
flagged-present Meter c = refl
flagged-present Residual c = refl
flagged-present Ncc c = refl

present-most : (s : Section) (c : ℕ) → c ≤ most_count s → present s c ≤ most_flag s
present-most Vesting c h = omega arith
present-most Meter c h = omega arith
present-most Residual c h = omega arith
present-most Ncc c h = omega arith

-- the count that a flag above 0 says
record Counted (s : Section) (v : ℕ) : Type 0 where
  count : ℕ
  least : least_count s ≤ count
  most : count ≤ most_count s
  is : present s count ≡ v

counted : (s : Section) (v : ℕ) → 0 < v → v ≤ most_flag s → Counted s v
counted Vesting v h l = record { count = v - 1; least = omega arith; most = omega arith; is = omega arith }
counted Meter v h l = record { count = v; least = omega arith; most = omega arith; is = refl }
counted Residual v h l = record { count = 0; least = omega arith; most = omega arith; is = omega arith }
counted Ncc v h l = record { count = 0; least = omega arith; most = omega arith; is = omega arith }

-- ---- The two tests

-- words of a count are words of its flag, and back
to_flag : (s : Section) (c : ℕ) (n : Word) (z : ℤ) → T (word_fits s c n z) → T (word_flagged s (present s c) n z)
to_flag s c (flag t) z x = tt
to_flag s c (figure g) z x = rw (flagged-present s c) x
to_flag s c padding z x = x

of_flag : (s : Section) (c : ℕ) (n : Word) (z : ℤ) → (T (word_flagged s (present s c) n z)) → ((t : Section) → n ≡ flag t → z ≡ pos (present s c)) → T (word_fits s c n z)
of_flag s c (flag t) z x e = rw (e t refl) (between-yes (present s c) (present s c) (present s c) (omega arith) (omega arith))
of_flag s c (figure g) z x e = rw (flagged-present s c) at x
of_flag s c padding z x e = x

blank-word : (s : Section) (n : Word) (z : ℤ) → T (is_zero z) → T (word_flagged s 0 n z)
blank-word s (flag t) z x = tt
blank-word s (figure g) z x = rw (none_flagged s (figure_place g)) x
blank-word s padding z x = x

word_blank : (s : Section) (n : Word) (z : ℤ) → T (word_flagged s 0 n z) → ((t : Section) → n ≡ flag t → T (is_zero z)) → T (is_zero z)
word_blank s (flag t) z x e = e t refl
word_blank s (figure g) z x e = rw (none_flagged s (figure_place g)) at x
word_blank s padding z x e = x

-- a row has one flag
unfoldable one_flag : Section → ℕ → Bool
one_flag s j = not (is_flag (word_name s j)) || eqb j (flag_index s)

all_one_flag : (s : Section) → T (all (width s) (one_flag s))
unfolding fold one_flag
all_one_flag Vesting = tt
all_one_flag Meter = tt
all_one_flag Residual = tt
all_one_flag Ncc = tt

only : (s : Section) (j : ℕ) (t : Section) → j < width s → word_name s j ≡ flag t → j ≡ flag_index s
unfolding one_flag
only s j t h e = go (all_at (width s) (one_flag s) (all_one_flag s) j h)
  where
    go : T (not (is_flag (word_name s j)) || eqb j (flag_index s)) → j ≡ flag_index s
    go x = eqb→eq j (flag_index s) (rw e at x)

module _ (s : Section) (f : ℕ → ℤ) where
  flag_is : (j : ℕ) (t : Section) → j < width s → word_name s j ≡ flag t → j ≡ flag_index s
  flag_is j t h e = only s j t h e

  to : T (row_fits s f) → T (row_flagged s f)
  unfolding row_fits row_blank row_counts row_flagged
  to x = or_cases (row_blank s f) (any (suc (most_count s)) (row_counts s f)) x
      (λ b. let z : f (flag_index s) ≡ pos 0 = is_zero_lem (f (flag_index s)) (all_at (width s) (λ j. is_zero (f j)) b (flag_index s) (flag-inside s)) in
      flagged-row 0 z (omega arith) (λ j h. blank-word s (word_name s j) (f j) (all_at (width s) (λ j. is_zero (f j)) b j h)))
      (λ a. let c = any_some (suc (most_count s)) (row_counts s f) a in
      let w = all_at (width s) (λ j. word_fits s c.0 (word_name s j) (f j)) (and_right (leb (least_count s) c.0) (all (width s) (λ j. word_fits s c.0 (word_name s j) (f j))) c.2) in
      let z : f (flag_index s) ≡ pos (present s c.0) = is_number (present s c.0) (f (flag_index s)) (subst (λ (n : Word). T (word_fits s c.0 n (f (flag_index s)))) (flag-named s) (w (flag_index s) (flag-inside s))) in
      flagged-row (present s c.0) z (present-most s c.0 (omega (arith, c.1))) (λ j h. to_flag s c.0 (word_name s j) (f j) (w j h)))
    where
      flagged-row : (v : ℕ) → f (flag_index s) ≡ pos v → v ≤ most_flag s → ((j : ℕ) → j < width s → T (word_flagged s v (word_name s j) (f j))) → T (row_flagged s f)
      flagged-row v z l w = and_both (between (pos 0) (pos (most_flag s)) (f (flag_index s))) (all (width s) (λ j. word_flagged s (positive (f (flag_index s))) (word_name s j) (f j)))
          (rw z (between-yes 0 (most_flag s) v (omega arith) l))
          (all_yes (width s) (λ j. word_flagged s (positive (f (flag_index s))) (word_name s j) (f j)) (λ j h. subst (λ (y : ℕ). T (word_flagged s y (word_name s j) (f j))) (sym (ap positive z)) (w j h)))

  back : T (row_flagged s f) → T (row_fits s f)
  unfolding row_fits row_blank row_counts row_flagged
  back x = ⊎_elim some none (lt_or_le 0 (positive (f (flag_index s))))
    where
      v : (f (flag_index s) ≡ pos (positive (f (flag_index s)))) × (0 ≤ positive (f (flag_index s))) × (positive (f (flag_index s)) ≤ most_flag s)
      v = is_natural 0 (most_flag s) (f (flag_index s)) (and_left (between (pos 0) (pos (most_flag s)) (f (flag_index s))) (all (width s) (λ j. word_flagged s (positive (f (flag_index s))) (word_name s j) (f j))) x)

      w : (j : ℕ) → j < width s → T (word_flagged s (positive (f (flag_index s))) (word_name s j) (f j))
      w = all_at (width s) (λ j. word_flagged s (positive (f (flag_index s))) (word_name s j) (f j)) (and_right (between (pos 0) (pos (most_flag s)) (f (flag_index s))) (all (width s) (λ j. word_flagged s (positive (f (flag_index s))) (word_name s j) (f j))) x)

      -- the flag's word is the flag
      at_flag : (P : ℤ → Type 0) (j : ℕ) → j < width s → P (f (flag_index s)) → (t : Section) → word_name s j ≡ flag t → P (f j)
      at_flag P j h p t e = subst (λ (i : ℕ). P (f i)) (sym (flag_is j t h e)) p

      some : 0 < positive (f (flag_index s)) → T (row_fits s f)
      some h =
          let c = counted s (positive (f (flag_index s))) h v.2 in
          let z : f (flag_index s) ≡ pos (present s c.count) = v.0 ∙ ap pos (sym c.is) in
          or_right (row_blank s f) (any (suc (most_count s)) (row_counts s f)) (any-yes (suc (most_count s)) (row_counts s f) c.count (omega (arith, c.most))
          (and_both (leb (least_count s) c.count) (all (width s) (λ j. word_fits s c.count (word_name s j) (f j))) (le→leb (least_count s) c.count c.least)
          (all_yes (width s) (λ j. word_fits s c.count (word_name s j) (f j)) (λ j hj. of_flag s c.count (word_name s j) (f j)
          (subst (λ (y : ℕ). T (word_flagged s y (word_name s j) (f j))) (sym c.is) (w j hj))
          (at_flag (λ y. y ≡ pos (present s c.count)) j hj z)))))

      none : positive (f (flag_index s)) ≤ 0 → T (row_fits s f)
      none h =
          let e : positive (f (flag_index s)) ≡ 0 = omega arith in
          let z : f (flag_index s) ≡ pos 0 = v.0 ∙ ap pos e in
          or_left (row_blank s f) (any (suc (most_count s)) (row_counts s f)) (all_yes (width s) (λ j. is_zero (f j)) (λ j hj. word_blank s (word_name s j) (f j)
          (subst (λ (y : ℕ). T (word_flagged s y (word_name s j) (f j))) e (w j hj)) (at_flag (λ y. T (is_zero y)) j hj (rw z tt))))

  pub row-by_flag : row_fits s f ≡ row_flagged s f
  row-by_flag = tests_same (row_fits s f) (row_flagged s f) to back
