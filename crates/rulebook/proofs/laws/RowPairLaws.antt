-- A vesting or meter row fits exactly if its flag is in range, its pairs are, and those that the flag does not count are zero. Assumes nothing.
use Rattle.std.specs.Prelude.{◌≡◌, Bool, true, false, cond, ◌&&◌, ◌||◌, ℕ, zero, suc, ◌+◌, ◌*◌, ◌<◌, T, ltb, ℤ, pos, negsuc}
use Rattle.std.proofs.Math.Path.{refl}
use Rattle.std.proofs.Common.{sym, ap, ap₂, ◌∙◌, subst, arith, le-ltb, ltb→lt, lt→ltb}
use Rattle.std.proofs.Math.Bool.{and_assoc, and-true, and-false}
use Rattle.std.proofs.lemmas.Bool.{lt-leb}
use Rattle.std.specs.Int.Signed.{lt_z}
use Rattle.integer.specs.Below.{fold, all}
use Rattle.rulebook.specs.declared.Kind.{Kind}
use Rattle.rulebook.specs.declared.Kind.TheVariants.{Quantity, Injection, Price}
use Rattle.rulebook.specs.declared.Section.TheVariants.{Vesting, Meter}
use Rattle.rulebook.specs.Units.{between, in_range, positive}
use Rattle.rulebook.specs.WellFormed.{is_zero, row_fits}
use Rattle.rulebook.specs.RowPairs.{row_pairs, pairs_in_range, rest_zero, pairs_fit}
use Rattle.rulebook.proofs.laws.TestLaws.{T-path, or_left, and-middle, by_twos, tests_same, is_zero_lem, all_same, all_and, all_yes}
use Rattle.rulebook.proofs.laws.KeptLaws.{zero-kind}
use Rattle.rulebook.proofs.laws.RowFlagLaws.{row_flagged, row-by_flag}

-- ---- A figure by its flag

abbrev fits_as : Kind → Bool → ℤ → Bool
fits_as k used z = cond used (in_range k z) (is_zero z)

unused : (k : Kind) (z : ℤ) → is_zero z ≡ (in_range k z && is_zero z)
unused k (pos zero) = rw (T-path (in_range k (pos 0)) (zero-kind k))
unused k (pos (suc n)) = simp (lt-leb (suc n) 0 (omega arith), and-false)
unused k (negsuc n) = simp and-false

range_first : (k : Kind) (used : Bool) (z : ℤ) → fits_as k used z ≡ (in_range k z && (used || is_zero z))
range_first k true z = sym (and-true (in_range k z))
range_first k false z = unused k z

either-zero : (used : Bool) (a b : Bool) → ((used || a) && (used || b)) ≡ (used || (a && b))
either-zero true a b = refl
either-zero false a b = refl

-- ---- Four pairs

-- as many as the flag says
half : (p v : ℕ) → ltb (2 * p) (2 * v) ≡ ltb p v
half p v = tests_same (ltb (2 * p) (2 * v)) (ltb p v) (λ t. lt→ltb p v (omega (arith, ltb→lt (2 * p) (2 * v) t))) (λ t. lt→ltb (2 * p) (2 * v) (omega (arith, ltb→lt p v t)))

half-and : (p v : ℕ) → ltb (1 + 2 * p) (2 * v) ≡ ltb p v
half-and p v = tests_same (ltb (1 + 2 * p) (2 * v)) (ltb p v) (λ t. lt→ltb p v (omega (arith, ltb→lt (1 + 2 * p) (2 * v) t))) (λ t. lt→ltb (1 + 2 * p) (2 * v) (omega (arith, ltb→lt p v t)))

abbrev pair_as : Kind → Kind → ℕ → (ℕ → ℤ) → ℕ → Bool
pair_as k l v f p = fits_as k (ltb (2 * p) (2 * v)) (f (1 + 2 * p)) && fits_as l (ltb (1 + 2 * p) (2 * v)) (f (2 + 2 * p))

one_pair : (k l : Kind) (v : ℕ) (f : ℕ → ℤ) (p : ℕ)
    → pair_as k l v f p ≡ ((in_range k (f (1 + 2 * p)) && in_range l (f (2 + 2 * p))) && (ltb p v || (is_zero (f (1 + 2 * p)) && is_zero (f (2 + 2 * p)))))
one_pair k l v f p =
    let x = f (1 + 2 * p) in
    let y = f (2 + 2 * p) in
    ap₂ ◌&&◌ (ap (λ (u : Bool). fits_as k u x) (half p v) ∙ range_first k (ltb p v) x) (ap (λ (u : Bool). fits_as l u y) (half-and p v) ∙ range_first l (ltb p v) y)
    ∙ and-middle (in_range k x) (ltb p v || is_zero x) (in_range l y) (ltb p v || is_zero y)
    ∙ ap (λ (b : Bool). (in_range k x && in_range l y) && b) (either-zero (ltb p v) (is_zero x) (is_zero y))

four-pairs : (k l : Kind) (v : ℕ) (f : ℕ → ℤ) → all row_pairs (pair_as k l v f)
    ≡ (pairs_in_range k l f && all row_pairs (λ p. ltb p v || (is_zero (f (1 + 2 * p)) && is_zero (f (2 + 2 * p)))))
unfolding pairs_in_range
four-pairs k l v f =
    all_same row_pairs _ _ (λ p h. one_pair k l v f p)
    ∙ all_and row_pairs (λ p. in_range k (f (1 + 2 * p)) && in_range l (f (2 + 2 * p))) (λ p. ltb p v || (is_zero (f (1 + 2 * p)) && is_zero (f (2 + 2 * p))))

-- the figures one by one, after a flag z
abbrev figures_as : Kind → Kind → ℕ → (ℕ → ℤ) → Bool
figures_as k l v f = fits_as k (ltb 0 (2 * v)) (f 1) && fits_as l (ltb 1 (2 * v)) (f 2) && fits_as k (ltb 2 (2 * v)) (f 3) && fits_as l (ltb 3 (2 * v)) (f 4)
    && fits_as k (ltb 4 (2 * v)) (f 5) && fits_as l (ltb 5 (2 * v)) (f 6) && fits_as k (ltb 6 (2 * v)) (f 7) && fits_as l (ltb 7 (2 * v)) (f 8)

pairs_of : (k l : Kind) (v : ℕ) (f : ℕ → ℤ) → figures_as k l v f ≡ all row_pairs (pair_as k l v f)
unfolding fold
pairs_of k l v f = by_twos (fits_as k (ltb 0 (2 * v)) (f 1)) (fits_as l (ltb 1 (2 * v)) (f 2)) (fits_as k (ltb 2 (2 * v)) (f 3)) (fits_as l (ltb 3 (2 * v)) (f 4))
    (fits_as k (ltb 4 (2 * v)) (f 5)) (fits_as l (ltb 5 (2 * v)) (f 6)) (fits_as k (ltb 6 (2 * v)) (f 7)) (fits_as l (ltb 7 (2 * v)) (f 8))

by_pairs : (k l : Kind) (f : ℕ → ℤ) (z : ℤ) → f 0 ≡ z → (between (pos 0) (pos row_pairs) (f 0) && figures_as k l (positive (f 0)) f) ≡ pairs_fit k l f
unfolding pairs_fit rest_zero
by_pairs k l f (pos n) e = rw e (ap (λ (b : Bool). between (pos 0) (pos row_pairs) (pos n) && b) (pairs_of k l n f ∙ four-pairs k l n f)
    ∙ sym (and_assoc (between (pos 0) (pos row_pairs) (pos n)) (pairs_in_range k l f) (all row_pairs (λ p. ltb p n || (is_zero (f (1 + 2 * p)) && is_zero (f (2 + 2 * p)))))))
by_pairs k l f (negsuc n) e = rw e refl

-- a flag of 0 leaves every pair to be zero, and zero is in range
pub absent-is : (k l : Kind) (f : ℕ → ℤ) → is_zero (f 0) ≡ true → pairs_fit k l f ≡ rest_zero f
unfolding pairs_fit rest_zero
absent-is k l f e =
    let z : f 0 ≡ pos 0 = is_zero_lem (f 0) (subst T (sym e) tt) in
    rw z (sym (four-pairs k l 0 f) ∙ all_same row_pairs (pair_as k l 0 f) (λ p. ltb p 0 || (is_zero (f (1 + 2 * p)) && is_zero (f (2 + 2 * p))))
    (λ p h. rw (le-ltb (2 * p) 0 (omega arith), le-ltb (1 + 2 * p) 0 (omega arith), le-ltb p 0 (omega arith)) refl))

-- one above 3 leaves none
counts_all : (p : ℕ) (z : ℤ) → p < row_pairs → T (lt_z (pos 3) z) → T (lt_z (pos p) z)
counts_all p (pos n) h t = lt→ltb p n (omega (arith, ltb→lt 3 n t))
counts_all p (negsuc n) h t = absurd t

pub no_rest : (f : ℕ → ℤ) → lt_z (pos 3) (f 0) ≡ true → rest_zero f ≡ true
unfolding rest_zero
no_rest f e = T-path (all row_pairs rest) (all_yes row_pairs rest (λ p h. or_left (lt_z (pos p) (f 0)) (is_zero (f (1 + 2 * p)) && is_zero (f (2 + 2 * p))) (counts_all p (f 0) h (subst T (sym e) tt))))
  where
    rest : ℕ → Bool
    rest p = lt_z (pos p) (f 0) || (is_zero (f (1 + 2 * p)) && is_zero (f (2 + 2 * p)))

-- ---- The two sections

module _ (f : ℕ → ℤ) where
  -- the flag is 0 or 1 + tranche count: BVQ and BVP, then a TVQ and TVP for each tranche
  pub vesting-is : row_fits Vesting f ≡ pairs_fit Quantity Price f
  unfolding row_flagged fold
  vesting-is = row-by_flag Vesting f ∙ by_pairs Quantity Price f (f 0) refl

  -- the flag is 0 or the facility count: an MEP and IEQ for each
  pub meter-is : row_fits Meter f ≡ pairs_fit Price Injection f
  unfolding row_flagged fold
  meter-is = row-by_flag Meter f ∙ by_pairs Price Injection f (f 0) refl
