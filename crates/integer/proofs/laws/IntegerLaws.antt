-- Laws of the integers, by their parts: everything linear in z is linear in `positive z` and `negative z`, so `omega int` decides it.
-- Assumes nothing.
use Rattle.std.specs.Prelude.{◌≡◌, refl, Bool, true, false, cond, ℕ, zero, suc, ◌+◌, ◌*◌, ◌-◌, ◌≤◌, ◌<◌, ◌^◌, min, T, ltb, ℤ, pos, negsuc, neg_ℤ, nat_abs, ◌+ℤ◌, ◌-ℤ◌, ◌*ℤ◌, ◌≤ℤ◌, ◌<ℤ◌}
use Rattle.std.proofs.Common.{sym, ap, subst, arith, le_refl, le_trans, le_of_eq, mul-le-mul, mul-add, mul_comm, lt_of_le_of_lt, ltb-true, ltb-false, leb-true, leb-false, ltb→lt, le→leb, lt→ltb, SFits, to_z, of_z}
use Rattle.std.proofs.Math.IntN.{sub_ℕ}
use Rattle.std.specs.Int.Signed.{mag, le_z, lt_z, non_neg}
use Rattle.std.specs.Int.{w64}
use Rattle.std.proofs.lemmas.Int.{to_z-of_z}
use Rattle.integer.specs.Integer.{positive, negative, with_sign, minus}

-- ---- Parts

abs-parts : (z : ℤ) → nat_abs z ≡ positive z + negative z
abs-parts (pos n) = omega arith
abs-parts (negsuc n) = omega arith

one_part : (z : ℤ) → min (positive z) (negative z) ≡ 0
one_part (pos n) = omega arith
one_part (negsuc n) = omega arith

mag-le : (z : ℤ) → mag z ≤ nat_abs z
mag-le (pos n) = le_refl n
mag-le (negsuc n) = omega arith

mag-ge : (z : ℤ) → nat_abs z ≤ suc (mag z)
mag-ge (pos n) = omega arith
mag-ge (negsuc n) = omega arith

-- what is known of every integer
pub record Parts (z : ℤ) : Type 0 where
  pub abs : nat_abs z ≡ positive z + negative z
  pub one : min (positive z) (negative z) ≡ 0
  pub mag-below : mag z ≤ nat_abs z
  pub mag-above : nat_abs z ≤ suc (mag z)

pub parts : (z : ℤ) → Parts z
parts z = record { abs = abs-parts z; one = one_part z; mag-below = mag-le z; mag-above = mag-ge z }

-- ---- Equality and order

pub parts-eq : (a b : ℤ) → positive a + negative b ≡ positive b + negative a → a ≡ b
parts-eq (pos a) (pos b) h = ap pos (omega arith)
parts-eq (pos a) (negsuc b) h = absurd (omega arith)
parts-eq (negsuc a) (pos b) h = absurd (omega arith)
parts-eq (negsuc a) (negsuc b) h = ap negsuc (omega arith)

pub eq_parts : {a b : ℤ} → a ≡ b → positive a + negative b ≡ positive b + negative a
eq_parts {a} {b} e = rw e refl

pub lt_test : (a b : ℤ) → lt_z a b ≡ true → positive a + negative b < positive b + negative a
lt_test (pos a) (pos b) e = let h = ltb-true a b e in omega arith
lt_test (pos a) (negsuc b) e = absurd (subst T (sym e) tt)
lt_test (negsuc a) (pos b) e = omega arith
lt_test (negsuc a) (negsuc b) e = let h = ltb-true b a e in omega arith

pub nlt_test : (a b : ℤ) → lt_z a b ≡ false → positive b + negative a ≤ positive a + negative b
nlt_test (pos a) (pos b) e = let h = ltb-false a b e in omega arith
nlt_test (pos a) (negsuc b) e = omega arith
nlt_test (negsuc a) (pos b) e = absurd (subst T e tt)
nlt_test (negsuc a) (negsuc b) e = let h = ltb-false b a e in omega arith

pub le_test : (a b : ℤ) → le_z a b ≡ true → positive a + negative b ≤ positive b + negative a
le_test (pos a) (pos b) e = let h = leb-true a b e in omega arith
le_test (pos a) (negsuc b) e = absurd (subst T (sym e) tt)
le_test (negsuc a) (pos b) e = omega arith
le_test (negsuc a) (negsuc b) e = let h = leb-true b a e in omega arith

pub nle_test : (a b : ℤ) → le_z a b ≡ false → positive b + negative a < positive a + negative b
nle_test (pos a) (pos b) e = let h = leb-false a b e in omega arith
nle_test (pos a) (negsuc b) e = omega arith
nle_test (negsuc a) (pos b) e = absurd (subst T e tt)
nle_test (negsuc a) (negsuc b) e = let h = leb-false b a e in omega arith

-- a test that passes is true
pub T-path : (b : Bool) → T b → b ≡ true
T-path true t = refl
T-path false t = absurd t

pub le_parts : {a b : ℤ} → a ≤ℤ b → positive a + negative b ≤ positive b + negative a
le_parts {a} {b} h = le_test a b (T-path (le_z a b) h.le)

pub lt_parts : {a b : ℤ} → a <ℤ b → positive a + negative b < positive b + negative a
lt_parts {a} {b} h = lt_test a b (T-path (lt_z a b) h.lt)

le_bool : (a b : ℤ) → positive a + negative b ≤ positive b + negative a → T (le_z a b)
le_bool (pos a) (pos b) h = le→leb a b (omega arith)
le_bool (pos a) (negsuc b) h = absurd (omega arith)
le_bool (negsuc a) (pos b) h = tt
le_bool (negsuc a) (negsuc b) h = le→leb b a (omega arith)

lt_bool : (a b : ℤ) → positive a + negative b < positive b + negative a → T (lt_z a b)
lt_bool (pos a) (pos b) h = lt→ltb a b (omega arith)
lt_bool (pos a) (negsuc b) h = absurd (omega arith)
lt_bool (negsuc a) (pos b) h = tt
lt_bool (negsuc a) (negsuc b) h = lt→ltb b a (omega arith)

pub parts-le : {a b : ℤ} → positive a + negative b ≤ positive b + negative a → a ≤ℤ b
parts-le {a} {b} h = record { le = le_bool a b h }

pub parts-lt : {a b : ℤ} → positive a + negative b < positive b + negative a → a <ℤ b
parts-lt {a} {b} h = record { lt = lt_bool a b h }

pub le_true : (a b : ℤ) → positive a + negative b ≤ positive b + negative a → le_z a b ≡ true
le_true a b h = T-path (le_z a b) (le_bool a b h)

pub le_false : (a b : ℤ) → positive b + negative a < positive a + negative b → le_z a b ≡ false
le_false a b h = go (le_z a b) (le_test a b)
  where
    go : (t : Bool) → (t ≡ true → positive a + negative b ≤ positive b + negative a) → t ≡ false
    go true f = absurd (omega (arith, f refl))
    go false f = refl

pub parts-nonneg : (z : ℤ) → negative z ≡ 0 → T (non_neg z)
parts-nonneg (pos n) h = tt
parts-nonneg (negsuc n) h = absurd (omega arith)

-- ---- Sums, differences, products

pub sub_ℕ-parts : (a b : ℕ) → positive (sub_ℕ a b) + b ≡ negative (sub_ℕ a b) + a
sub_ℕ-parts a b = by (ltb a b) (ltb-true a b) (ltb-false a b)
  where
    by : (t : Bool) → (t ≡ true → a < b) → (t ≡ false → b ≤ a) → positive (cond t (negsuc (b - suc a)) (pos (a - b))) + b ≡ negative (cond t (negsuc (b - suc a)) (pos (a - b))) + a
    by true f g = let h = f refl in omega arith
    by false f g = let h = g refl in omega arith

pub add_parts : (a b : ℤ) → positive (a +ℤ b) + (negative a + negative b) ≡ negative (a +ℤ b) + (positive a + positive b)
add_parts (pos a) (pos b) = omega arith
add_parts (pos a) (negsuc b) = let h = sub_ℕ-parts a (suc b) in omega arith
add_parts (negsuc a) (pos b) = let h = sub_ℕ-parts b (suc a) in omega arith
add_parts (negsuc a) (negsuc b) = omega arith

pub record Negated (a : ℤ) : Type 0 where
  pub pos-part : positive (neg_ℤ a) ≡ negative a
  pub neg_part : negative (neg_ℤ a) ≡ positive a

pub neg_parts : (a : ℤ) → Negated a
neg_parts (pos zero) = record { pos-part = refl; neg_part = refl }
neg_parts (pos (suc n)) = record { pos-part = refl; neg_part = refl }
neg_parts (negsuc n) = record { pos-part = refl; neg_part = refl }

pub sub_parts : (a b : ℤ) → positive (a -ℤ b) + (negative a + positive b) ≡ negative (a -ℤ b) + (positive a + negative b)
sub_parts a b = omega (arith, add_parts a (neg_ℤ b), neg_parts b)

pub mul_parts : (a b : ℤ) → positive (a *ℤ b) + (positive a * negative b + negative a * positive b) ≡ negative (a *ℤ b) + (positive a * positive b + negative a * negative b)
mul_parts (pos a) (pos b) = omega arith
mul_parts (pos a) (negsuc b) = omega (arith, neg_parts (pos (a * suc b)))
mul_parts (negsuc a) (pos b) = omega (arith, neg_parts (pos (suc a * b)))
mul_parts (negsuc a) (negsuc b) = omega arith

-- a factor that is not below zero keeps the order
pub mul_mono : (a b : ℤ) (w : ℕ) → a ≤ℤ b → (a *ℤ pos w) ≤ℤ (b *ℤ pos w)
mul_mono a b w h =
    let k : w * (positive a + negative b) ≤ w * (positive b + negative a) = mul-le-mul (le_refl w) (le_parts h) in
    parts-le
    (omega (
      arith,
      mul_parts a (pos w),
      mul_parts b (pos w),
      mul-add w (positive a) (negative b),
      mul-add w (positive b) (negative a),
      mul_comm w (positive a),
      mul_comm w (negative a),
      mul_comm w (positive b),
      mul_comm w (negative b),
    ))

-- ---- Sizes

pub abs_neg : (a : ℤ) → nat_abs (neg_ℤ a) ≡ nat_abs a
abs_neg (pos zero) = refl
abs_neg (pos (suc n)) = refl
abs_neg (negsuc n) = refl

pub abs-add : (a b : ℤ) → nat_abs (a +ℤ b) ≤ nat_abs a + nat_abs b
abs-add a b = omega (arith, add_parts a b, parts (a +ℤ b), parts a, parts b)

pub abs-sub : (a b : ℤ) → nat_abs (a -ℤ b) ≤ nat_abs a + nat_abs b
abs-sub a b = omega (arith, abs-add a (neg_ℤ b), abs_neg b)

pub abs-mul : (a b : ℤ) → nat_abs (a *ℤ b) ≡ nat_abs a * nat_abs b
abs-mul (pos a) (pos b) = refl
abs-mul (pos a) (negsuc b) = abs_neg (pos (a * suc b))
abs-mul (negsuc a) (pos b) = abs_neg (pos (suc a * b))
abs-mul (negsuc a) (negsuc b) = refl

pub abs-mul_le : (x y : ℤ) (a b : ℕ) → nat_abs x ≤ a → nat_abs y ≤ b → nat_abs (x *ℤ y) ≤ a * b
abs-mul_le x y a b h k = le_trans (le_of_eq (abs-mul x y)) (mul-le-mul h k)

-- a product of numbers within a and b, below a numeral: `mul_under a b (..) (..) tt`
pub mul_under : {x y : ℕ} (a b : ℕ) {n : ℕ} → x ≤ a → y ≤ b → T (ltb (a * b) n) → x * y < n
mul_under a b {n} h k t = lt_of_le_of_lt (mul-le-mul h k) (ltb→lt (a * b) n t)

-- ---- Sign

pub with_sign-negative : (z : ℤ) (m : ℕ) → 0 < negative z → with_sign z m ≡ minus m
unfolding with_sign
with_sign-negative (pos n) m h = absurd (omega arith)
with_sign-negative (negsuc n) m h = refl

pub with_sign-positive : (z : ℤ) (m : ℕ) → negative z ≡ 0 → with_sign z m ≡ pos m
unfolding with_sign
with_sign-positive (pos n) m h = refl
with_sign-positive (negsuc n) m h = absurd (omega arith)

pub with_sign-abs : (z : ℤ) (m : ℕ) → nat_abs (with_sign z m) ≡ m
unfolding with_sign
with_sign-abs (pos n) m = refl
with_sign-abs (negsuc n) m = abs_neg (pos m)

-- ---- The machine's 64 bits

-- a number of magnitude below 2 ^ 63 fits
pub fits-abs : {z : ℤ} → nat_abs z < 2 ^ 63 → SFits w64 z
fits-abs {z} h = record { sfits = let m = mag-le z in omega arith }

pub read-abs : {z : ℤ} → SFits w64 z → nat_abs (to_z w64 (of_z w64 z)) ≡ nat_abs z
read-abs {z} f = ap nat_abs (to_z-of_z w64 z f)

-- `omega`, with ℤ: tests and orders are read through the parts, and so are a goal's equation, order and range
pub ruleset int = (arith, read-abs, lt_test, nlt_test, le_test, nle_test, le_parts, lt_parts, parts-eq, parts-le, parts-lt, parts-nonneg, fits-abs)
