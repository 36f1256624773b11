-- A test, of a word or over the numbers below n, and the statement that it decides. Assumes nothing.
use Rattle.std.specs.Prelude.{◌≡◌, refl, ◌⊎◌, Bool, true, false, cond, ◌&&◌, ◌||◌, not, ℕ, zero, suc, ◌≤◌, ◌<◌, ℤ, pos, negsuc, T, leb, ltb}
use Rattle.std.proofs.Common.{sym, ap, ap₂, ◌∙◌, inl, inr, ⊎_elim, arith, lt-ltb, le-ltb, le-leb, le→leb, leb→le, nltb→le}
use Rattle.std.proofs.Math.Bool.{and_assoc}
use Rattle.std.proofs.Math.Nat.{le-suc_iff}
use Rattle.std.proofs.lemmas.Bool.{lt-leb}
use Rattle.std.specs.Int.Signed.{le_z, lt_z}
use Rattle.integer.specs.Below.{fold, all, any}
use Rattle.integer.proofs.laws.BelowLaws.{lt_or_le, fold-cong, fold-each, and-true, all_of}
use Rattle.integer.proofs.laws.CountLaws.{any_at}
use Rattle.rulebook.specs.Units.{between, positive}
use Rattle.rulebook.specs.WellFormed.{is_zero}
pub use Rattle.integer.proofs.laws.IntegerLaws.{T-path}

-- below n + 1: below n, or n
pub below_suc : {i n : ℕ} → i < suc n → (i < n) ⊎ (i ≡ n)
below_suc {i} {n} h = go (le-suc_iff.0 h)
  where
    go : (suc i ≤ n) ⊎ (suc i ≡ suc n) → (i < n) ⊎ (i ≡ n)
    go (inl x) = inl x
    go (inr x) = inr (omega arith)

-- ---- One test

pub not_path : (b : Bool) → T (not b) → b ≡ false
not_path true t = absurd t
not_path false t = refl

pub not_so : (b : Bool) → (T b → ⊥) → b ≡ false
not_so true f = absurd (f tt)
not_so false f = refl

pub and_left : (a b : Bool) → T (a && b) → T a
and_left true b t = tt
and_left false b t = t

pub and_right : (a b : Bool) → T (a && b) → T b
and_right true b t = t
and_right false b t = absurd t

pub and_both : (a b : Bool) → T a → T b → T (a && b)
and_both true b t u = u
and_both false b t u = t

pub or_left : (a b : Bool) → T a → T (a || b)
or_left true b t = tt
or_left false b t = absurd t

pub or_right : (a b : Bool) → T b → T (a || b)
or_right true b t = tt
or_right false b t = t

-- either side of a test
pub or_cases : {X : Type 0} (a b : Bool) → T (a || b) → (T a → X) → (T b → X) → X
or_cases true b t f g = f tt
or_cases false b t f g = g t

pub and-middle : (a b c d : Bool) → (a && b && (c && d)) ≡ (a && c && (b && d))
and-middle true true c d = refl
and-middle true false true d = refl
and-middle true false false d = refl
and-middle false b c d = refl

-- some tests, then two more
pub and_then : {a x y : Bool} (b c : Bool) → a ≡ x → (b && c) ≡ y → (a && b && c) ≡ (x && y)
and_then {a} b c e f = and_assoc a b c ∙ ap₂ ◌&&◌ e f

-- eight tests, by twos
pub by_twos : (a b c d e f g h : Bool) → (a && b && c && d && e && f && g && h) ≡ ((a && b) && (c && d) && (e && f) && (g && h))
by_twos a b c d e f g h = rw (← and_assoc (a && b) c d, ← and_assoc (a && b && c && d) e f, ← and_assoc (a && b && c && d && e && f) g h)

-- two tests that pass alike are one
pub tests_same : (a b : Bool) → (T a → T b) → (T b → T a) → a ≡ b
tests_same true b f g = sym (T-path b (f tt))
tests_same false true f g = absurd (g tt)
tests_same false false f g = refl

-- ---- A word between two numbers

pub between-yes : (a b n : ℕ) → a ≤ n → n ≤ b → T (between (pos a) (pos b) (pos n))
between-yes a b n h k = and_both (leb a n) (leb n b) (le→leb a n h) (le→leb n b k)

pub is_natural : (a b : ℕ) (z : ℤ) → T (between (pos a) (pos b) z) → (z ≡ pos (positive z)) × (a ≤ positive z) × (positive z ≤ b)
is_natural a b (pos n) t = (refl, leb→le a n (and_left (leb a n) (leb n b) t), leb→le n b (and_right (leb a n) (leb n b) t))
is_natural a b (negsuc n) t = absurd t

pub is_number : (n : ℕ) (z : ℤ) → T (between (pos n) (pos n) z) → z ≡ pos n
is_number n (pos m) t = ap pos (omega (arith, leb→le n m (and_left (leb n m) (leb m n) t), leb→le m n (and_right (leb n m) (leb m n) t)))
is_number n (negsuc m) t = absurd t

pub is_zero_lem : (z : ℤ) → T (is_zero z) → z ≡ pos 0
is_zero_lem = is_number 0

pub zero-yes : {z : ℤ} → z ≡ pos 0 → T (is_zero z)
zero-yes e = rw e tt

-- a word above zero, by the number that it is read as
pub above_zero : (z : ℤ) → 1 ≤ positive z → z ≡ pos (positive z)
above_zero (pos n) h = refl
above_zero (negsuc n) h = absurd (omega arith)

-- a word not below zero
pub not_below : (z : ℤ) → T (le_z (pos 0) z) → z ≡ pos (positive z)
not_below (pos n) t = refl
not_below (negsuc n) t = absurd t

pub between-positive : (a b : ℕ) (z : ℤ) → between (pos (suc a)) (pos b) z ≡ (leb (suc a) (positive z) && leb (positive z) b)
between-positive a b (pos n) = refl
between-positive a b (negsuc n) = rw (lt-leb (suc a) 0 (omega arith)) refl

-- ---- Tests over the numbers below n

pub all_yes : (n : ℕ) (p : ℕ → Bool) → ((i : ℕ) → i < n → T (p i)) → T (all n p)
all_yes n p h = rw (all_of n p (λ i l. T-path (p i) (h i l))) tt

pub any-yes : (n : ℕ) (p : ℕ → Bool) (i : ℕ) → i < n → T (p i) → T (any n p)
any-yes n p i h t = rw (any_at n p i h (T-path (p i) t)) tt

pub not_ltb : (m n : ℕ) → n ≤ m → T (not (ltb m n))
not_ltb m n h = rw (le-ltb m n h) tt

pub not_ltb_is : (m n : ℕ) → not (ltb m n) ≡ leb n m
not_ltb_is m n = tests_same (not (ltb m n)) (leb n m) (λ t. le→leb n m (nltb→le m n t)) (λ t. not_ltb m n (leb→le n m t))

-- a test that goes by a condition
pub cond_yes : (c a b : Bool) → (T c → T a) → (T (not c) → T b) → T (cond c a b)
cond_yes true a b f g = f tt
cond_yes false a b f g = g tt

pub all_same : (n : ℕ) (p q : ℕ → Bool) → ((i : ℕ) → i < n → p i ≡ q i) → all n p ≡ all n q
all_same = fold-cong ◌&&◌ true

-- two tests at once
pub all_and : (n : ℕ) (p q : ℕ → Bool) → all n (λ i. p i && q i) ≡ (all n p && all n q)
unfolding fold
all_and zero p q = refl
all_and (suc n) p q = rw (all_and n p q) (and-middle (all n p) (all n q) (p n) (q n))

pub any_same : (n : ℕ) (p q : ℕ → Bool) → ((i : ℕ) → i < n → p i ≡ q i) → any n p ≡ any n q
any_same = fold-cong ◌||◌ false

pub all_at : (n : ℕ) (p : ℕ → Bool) → T (all n p) → (i : ℕ) → i < n → T (p i)
all_at n p t i h = rw (fold-each ◌&&◌ true and-true n p (T-path (all n p) t) i h) tt

pub any_some : (n : ℕ) (p : ℕ → Bool) → T (any n p) → (i : ℕ) × (i < n) × T (p i)
unfolding fold
any_some zero p t = absurd t
any_some (suc n) p t = or_cases (any n p) (p n) t (λ x. let y = any_some n p x in (y.0, omega (arith, y.1), y.2)) (λ x. (n, omega arith, x))

-- ---- A test turned about

pub ltb-not : (a b : ℕ) → ltb a b ≡ not (leb b a)
ltb-not a b = ⊎_elim (λ l. rw (lt-ltb a b l, lt-leb b a l)) (λ l. rw (le-ltb a b l, le-leb b a l)) (lt_or_le a b)

pub lt_z-not : (a b : ℤ) → lt_z a b ≡ not (le_z b a)
lt_z-not (pos a) (pos b) = ltb-not a b
lt_z-not (pos a) (negsuc b) = refl
lt_z-not (negsuc a) (pos b) = refl
lt_z-not (negsuc a) (negsuc b) = ltb-not b a

pub not_and : (a b : Bool) → not (a && b) ≡ not a || not b
not_and true b = refl
not_and false b = refl

pub not_not : (a : Bool) → not (not a) ≡ a
not_not true = refl
not_not false = refl

pub not_either : (a b : Bool) → (not a && not b) ≡ not (a || b)
not_either true b = refl
not_either false b = refl

pub cond-not : {A : Type 0} (t : Bool) (x y : A) → cond (not t) x y ≡ cond t y x
cond-not true x y = refl
cond-not false x y = refl
