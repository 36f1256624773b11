-- A solver for equations and orders of ℤ: every integer is a difference of two naturals, and sums, negations and products of differences
-- are differences. `rw (as_diff a, as_diff b, ..) (simp diffs (omega ring))`. Assumes nothing.
use Rattle.std.specs.Prelude.{◌≡◌, ℕ, suc, ◌+◌, ◌*◌, ◌≤◌, ◌<◌, ℤ, pos, negsuc, neg_ℤ, ◌+ℤ◌, ◌*ℤ◌, ◌≤ℤ◌, ◌<ℤ◌}
use Rattle.std.proofs.Common.{ap, arith}
use Rattle.std.proofs.Math.IntN.{sub_ℕ}
use Rattle.integer.specs.Integer.{positive, negative}
use Rattle.integer.proofs.laws.IntegerLaws.{parts-eq, parts-le, parts-lt, add_parts, neg_parts, mul_parts, sub_ℕ-parts, eq_parts, le_parts, lt_parts, lt_test, nlt_test, le_test, nle_test, read-abs}

unfoldable pub diff : ℕ → ℕ → ℤ
diff a b = sub_ℕ a b

pub diff-parts : (a b : ℕ) → positive (diff a b) + b ≡ negative (diff a b) + a
unfolding diff
diff-parts a b = sub_ℕ-parts a b

pub as_diff : (z : ℤ) → z ≡ diff (positive z) (negative z)
as_diff z = parts-eq z (diff (positive z) (negative z)) (omega (arith, diff-parts (positive z) (negative z)))

-- ---- Equality and order

pub diff-eq : (a b c d : ℕ) → a + d ≡ c + b → diff a b ≡ diff c d
diff-eq a b c d h = parts-eq (diff a b) (diff c d) (omega (arith, diff-parts a b, diff-parts c d))

pub diff-le : (a b c d : ℕ) → a + d ≤ c + b → diff a b ≤ℤ diff c d
diff-le a b c d h = parts-le (omega (arith, diff-parts a b, diff-parts c d))

pub diff-lt : (a b c d : ℕ) → a + d < c + b → diff a b <ℤ diff c d
diff-lt a b c d h = parts-lt (omega (arith, diff-parts a b, diff-parts c d))

-- ---- Operations

pub diff-add : (a b c d : ℕ) → diff a b +ℤ diff c d ≡ diff (a + c) (b + d)
diff-add a b c d = parts-eq (diff a b +ℤ diff c d) (diff (a + c) (b + d)) (omega (arith, add_parts (diff a b) (diff c d), diff-parts a b, diff-parts c d, diff-parts (a + c) (b + d)))

pub diff-neg : (a b : ℕ) → neg_ℤ (diff a b) ≡ diff b a
diff-neg a b = parts-eq (neg_ℤ (diff a b)) (diff b a) (omega (arith, neg_parts (diff a b), diff-parts a b, diff-parts b a))

pub diff-pos : (n : ℕ) → pos n ≡ diff n 0
diff-pos n = as_diff (pos n)

pub diff-negsuc : (n : ℕ) → negsuc n ≡ diff 0 (suc n)
diff-negsuc n = as_diff (negsuc n)

pub diff-mul : (a b c d : ℕ) → diff a b *ℤ diff c d ≡ diff (a * c + b * d) (a * d + b * c)
diff-mul a b c d =
    let x = diff a b in
    let y = diff c d in
    let e = diff-parts a b in
    let f = diff-parts c d in
    parts-eq (x *ℤ y) (diff (a * c + b * d) (a * d + b * c))
    (omega (arith, mul_parts x y, diff-parts (a * c + b * d) (a * d + b * c), ap (λ (n : ℕ). n * c) e, ap (λ (n : ℕ). n * d) e, ap (λ (n : ℕ). positive x * n) f, ap (λ (n : ℕ). negative x * n) f))

pub ruleset diffs = (diff-add, diff-neg, diff-mul, diff-pos, diff-negsuc)

pub ruleset ring = (arith, diff-eq, diff-le, diff-lt, eq_parts, le_parts, lt_parts, lt_test, nlt_test, le_test, nle_test, read-abs)
