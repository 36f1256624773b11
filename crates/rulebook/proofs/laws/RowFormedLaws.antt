-- A row passes its test exactly if its words are well formed in document 01's figures. Assumes nothing.
use Rattle.std.specs.Prelude.{◌≡◌, ◌⊎◌, Bool, ◌&&◌, ◌||◌, ℕ, zero, suc, ◌+◌, ◌*◌, ◌≤◌, ◌<◌, leb, ℤ, negsuc}
use Rattle.std.proofs.Common.{sym, inl, inr, ⊎_elim, arith, le→leb, ltb→lt, lt→ltb}
use Rattle.std.proofs.Math.Path.{subst}
use Rattle.std.proofs.Math.Dec.{T}
use Rattle.std.proofs.Math.IntN.{pos}
use Rattle.std.specs.Int.Signed.{le_z, lt_z}
use Rattle.integer.specs.Integer.{minus}
use Rattle.integer.specs.Below.{all, any}
use Rattle.integer.proofs.laws.BelowLaws.{lt_or_le}
use Rattle.rulebook.specs.declared.Section.{Section}
use Rattle.rulebook.specs.declared.Section.TheVariants.{Vesting, Meter, Residual, Ncc}
use Rattle.rulebook.specs.declared.Kind.{Kind}
use Rattle.rulebook.specs.declared.Kind.TheVariants.{Quantity, Injection, Price}
use Rattle.rulebook.specs.Units.{between, in_range, positive}
use Rattle.rulebook.specs.Sections.{least_count, most_count}
use Rattle.rulebook.specs.Layout.{width, word_name}
use Rattle.rulebook.specs.WellFormed.{is_zero, row_blank, word_fits, row_counts, row_fits}
use Rattle.rulebook.specs.RowPairs.{pairs_in_range, rest_zero, pairs_fit}
use Rattle.rulebook.specs.FormedBook.{Within, IsQuantity, IsPrice, IsInjection, PairsFormed, ResidualFormed, residual_absent, residual_there, NccFormed, ncc_absent, ncc_there}
use Rattle.rulebook.proofs.laws.TestLaws.{and_left, and_right, and_both, or_left, or_right, or_cases, between-yes, is_natural, is_number, is_zero_lem, zero-yes, all_yes, all_at, any-yes}
use Rattle.rulebook.proofs.laws.KeptLaws.{zero-kind, absent-fits}
use Rattle.rulebook.proofs.laws.SlotLaws.{fit_words}
use Rattle.rulebook.proofs.laws.RowPairLaws.{vesting-is, meter-is}

-- ---- Ranges

within : (a b z : ℤ) → T (between a b z) → Within a b z
within a b z t = record { least = record { le = and_left (le_z a z) (le_z z b) t }; most = record { le = and_right (le_z a z) (le_z z b) t } }

in_between : (a b z : ℤ) → Within a b z → T (between a b z)
in_between a b z h = and_both (le_z a z) (le_z z b) h.least.le h.most.le

-- ---- A flag and pairs

-- a flag counts no pair at or past it
not_counted : (p : ℕ) (z : ℤ) → positive z ≤ p → T (lt_z (pos p) z) → ⊥
not_counted p (pos n) h t = omega (arith, ltb→lt p n t)
not_counted p (negsuc n) h t = t

-- the first of a pair is of kind k, the second of kind l
module _ (k l : Kind) (f : ℕ → ℤ) where
  abbrev inside : ℕ → Bool
  inside p = in_range k (f (1 + 2 * p)) && in_range l (f (2 + 2 * p))

  abbrev zero-pair : ℕ → Bool
  zero-pair p = is_zero (f (1 + 2 * p)) && is_zero (f (2 + 2 * p))

  pairs-say : (A B : ℤ → Type 0) → ((z : ℤ) → T (in_range k z) → A z) → ((z : ℤ) → T (in_range l z) → B z) → T (pairs_fit k l f) → PairsFormed A B f
  unfolding pairs_fit pairs_in_range rest_zero
  pairs-say A B a b t = record {
    count = positive (f 0);
    flag = v.0;
    few = v.2;
    there = λ p h. let x = ranged p (omega (arith, v.2)) in
        (a (f (1 + 2 * p)) (and_left (in_range k (f (1 + 2 * p))) (in_range l (f (2 + 2 * p))) x), b (f (2 + 2 * p)) (and_right (in_range k (f (1 + 2 * p))) (in_range l (f (2 + 2 * p))) x));
    zeros = λ p h u. let x = rest p h u in
        (is_zero_lem (f (1 + 2 * p)) (and_left (is_zero (f (1 + 2 * p))) (is_zero (f (2 + 2 * p))) x), is_zero_lem (f (2 + 2 * p)) (and_right (is_zero (f (1 + 2 * p))) (is_zero (f (2 + 2 * p))) x));
  }
    where
      v : (f 0 ≡ pos (positive (f 0))) × (0 ≤ positive (f 0)) × (positive (f 0) ≤ 4)
      v = is_natural 0 4 (f 0) (and_left (between (pos 0) (pos 4) (f 0)) (all 4 inside) (and_left (between (pos 0) (pos 4) (f 0) && all 4 inside) (all 4 (λ p. lt_z (pos p) (f 0) || zero-pair p)) t))

      ranged : (p : ℕ) → p < 4 → T (inside p)
      ranged = all_at 4 inside (and_right (between (pos 0) (pos 4) (f 0)) (all 4 inside) (and_left (between (pos 0) (pos 4) (f 0) && all 4 inside) (all 4 (λ p. lt_z (pos p) (f 0) || zero-pair p)) t))

      rest : (p : ℕ) → positive (f 0) ≤ p → p < 4 → T (zero-pair p)
      rest p h u = or_cases (lt_z (pos p) (f 0)) (zero-pair p) (all_at 4 (λ p. lt_z (pos p) (f 0) || zero-pair p) (and_right (between (pos 0) (pos 4) (f 0) && all 4 inside) (all 4 (λ p. lt_z (pos p) (f 0) || zero-pair p)) t) p u)
          (λ x. absurd (not_counted p (f 0) h x)) (λ x. x)

  say_pairs : (A B : ℤ → Type 0) → ((z : ℤ) → A z → T (in_range k z)) → ((z : ℤ) → B z → T (in_range l z)) → PairsFormed A B f → T (pairs_fit k l f)
  unfolding pairs_fit pairs_in_range rest_zero
  say_pairs A B a b h = and_both (between (pos 0) (pos 4) (f 0) && all 4 inside) (all 4 (λ p. lt_z (pos p) (f 0) || zero-pair p))
      (and_both (between (pos 0) (pos 4) (f 0)) (all 4 inside) (rw h.flag (between-yes 0 4 h.count (omega arith) h.few)) (all_yes 4 inside ranged))
      (all_yes 4 (λ p. lt_z (pos p) (f 0) || zero-pair p) rest)
    where
      ranged : (p : ℕ) → p < 4 → T (inside p)
      ranged p u = and_both (in_range k (f (1 + 2 * p))) (in_range l (f (2 + 2 * p)))
          (⊎_elim (λ x. a (f (1 + 2 * p)) (h.there p x).0) (λ x. subst (λ (z : ℤ). T (in_range k z)) (sym (h.zeros p x u).0) (zero-kind k)) (lt_or_le p h.count))
          (⊎_elim (λ x. b (f (2 + 2 * p)) (h.there p x).1) (λ x. subst (λ (z : ℤ). T (in_range l z)) (sym (h.zeros p x u).1) (zero-kind l)) (lt_or_le p h.count))

      rest : (p : ℕ) → p < 4 → T (lt_z (pos p) (f 0) || zero-pair p)
      rest p u = ⊎_elim (λ x. or_left (lt_z (pos p) (f 0)) (zero-pair p) (rw h.flag (lt→ltb p h.count x)))
          (λ x. or_right (lt_z (pos p) (f 0)) (zero-pair p) (and_both (is_zero (f (1 + 2 * p))) (is_zero (f (2 + 2 * p))) (zero-yes (h.zeros p x u).0) (zero-yes (h.zeros p x u).1)))
          (lt_or_le p h.count)

-- ---- Rows

counted-fits : (s : Section) (f : ℕ → ℤ) (c : ℕ) → least_count s ≤ c → c < suc (most_count s) → ((j : ℕ) → j < width s → T (word_fits s c (word_name s j) (f j))) → T (row_fits s f)
unfolding row_fits row_counts
counted-fits s f c l m h = or_right (row_blank s f) (any (suc (most_count s)) (row_counts s f)) (any-yes (suc (most_count s)) (row_counts s f) c m
    (and_both (leb (least_count s) c) (all (width s) (λ j. word_fits s c (word_name s j) (f j))) (le→leb (least_count s) c l) (all_yes (width s) (λ j. word_fits s c (word_name s j) (f j)) h)))

module _ (f : ℕ → ℤ) where
  pub vesting-says : T (row_fits Vesting f) → PairsFormed IsQuantity IsPrice f
  vesting-says t = pairs-say Quantity Price f IsQuantity IsPrice (within (pos 0) (pos 10000000)) (within (minus 1000000) (pos 1000000)) (subst T (vesting-is f) t)

  pub meter-says : T (row_fits Meter f) → PairsFormed IsPrice IsInjection f
  meter-says t = pairs-say Price Injection f IsPrice IsInjection (within (minus 1000000) (pos 1000000)) (within (minus 10000000) (pos 10000000)) (subst T (meter-is f) t)

  pub says-vesting : PairsFormed IsQuantity IsPrice f → T (row_fits Vesting f)
  says-vesting h = subst T (sym (vesting-is f)) (say_pairs Quantity Price f IsQuantity IsPrice (in_between (pos 0) (pos 10000000)) (in_between (minus 1000000) (pos 1000000)) h)

  pub says-meter : PairsFormed IsPrice IsInjection f → T (row_fits Meter f)
  says-meter h = subst T (sym (meter-is f)) (say_pairs Price Injection f IsPrice IsInjection (in_between (minus 1000000) (pos 1000000)) (in_between (minus 10000000) (pos 10000000)) h)

  pub residual-says : T (row_fits Residual f) → ResidualFormed f
  residual-says t = go (fit_words Residual f t)
    where
      go : ((j : ℕ) → j < 5 → T (is_zero (f j))) ⊎ ((c : ℕ) × (c < 1) × ((j : ℕ) → j < 5 → T (word_fits Residual c (word_name Residual j) (f j)))) → ResidualFormed f
      go (inl x) = residual_absent (λ j h. is_zero_lem (f j) (x j h))
      go (inr x) = residual_there (is_number 1 (f 0) (x.2 0 (omega arith))) (within (pos 0) (pos 10000000) (f 1) (x.2 1 (omega arith))) (within (pos 0) (pos 10000000) (f 2) (x.2 2 (omega arith)))
          (within (minus 1000000) (pos 1000000) (f 3) (x.2 3 (omega arith))) (within (minus 1000000) (pos 1000000) (f 4) (x.2 4 (omega arith)))

  pub says-residual : ResidualFormed f → T (row_fits Residual f)
  says-residual (residual_absent x) = absent-fits Residual f x
  says-residual (residual_there e x y z u) = counted-fits Residual f 0 (omega arith) (omega arith) words
    where
      words : (j : ℕ) → j < 5 → T (word_fits Residual 0 (word_name Residual j) (f j))
      words zero l = rw e tt
      words (suc zero) l = in_between (pos 0) (pos 10000000) (f 1) x
      words (suc (suc zero)) l = in_between (pos 0) (pos 10000000) (f 2) y
      words (suc (suc (suc zero))) l = in_between (minus 1000000) (pos 1000000) (f 3) z
      words (suc (suc (suc (suc zero)))) l = in_between (minus 1000000) (pos 1000000) (f 4) u
      words (suc (suc (suc (suc (suc k))))) l = absurd (omega arith)

  pub ncc-says : T (row_fits Ncc f) → NccFormed f
  ncc-says t = go (fit_words Ncc f t)
    where
      go : ((j : ℕ) → j < 2 → T (is_zero (f j))) ⊎ ((c : ℕ) × (c < 1) × ((j : ℕ) → j < 2 → T (word_fits Ncc c (word_name Ncc j) (f j)))) → NccFormed f
      go (inl x) = ncc_absent (is_zero_lem (f 0) (x 0 (omega arith))) (is_zero_lem (f 1) (x 1 (omega arith)))
      go (inr x) = ncc_there (within (pos 0) (pos 1000000000) (f 0) (x.2 0 (omega arith))) (is_number 1 (f 1) (x.2 1 (omega arith)))

  pub says-ncc : NccFormed f → T (row_fits Ncc f)
  says-ncc (ncc_absent x y) = absent-fits Ncc f words
    where
      words : (j : ℕ) → j < 2 → f j ≡ pos 0
      words zero l = x
      words (suc zero) l = y
      words (suc (suc k)) l = absurd (omega arith)
  says-ncc (ncc_there x e) = counted-fits Ncc f 0 (omega arith) (omega arith) words
    where
      words : (j : ℕ) → j < 2 → T (word_fits Ncc 0 (word_name Ncc j) (f j))
      words zero l = in_between (pos 0) (pos 1000000000) (f 0) x
      words (suc zero) l = rw e tt
      words (suc (suc k)) l = absurd (omega arith)
