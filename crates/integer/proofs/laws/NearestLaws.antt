-- `nearest` has the property, and is the only number that has it; the signed quotient and remainder give it. Assumes nothing.
use Rattle.std.specs.Prelude.{◌≡◌, refl, ◌⊎◌, ℕ, suc, ◌+◌, ◌*◌, ◌/◌, ◌%◌, ◌≤◌, ◌<◌, min, ℤ, pos, negsuc, nat_abs, ◌+ℤ◌, ◌-ℤ◌, ◌*ℤ◌, ◌≤ℤ◌}
use Rattle.std.proofs.Common.{sym, ap, ◌∙◌, inl, inr, ⊎_elim, le_refl, mul-le-mul, mul-add, mul-zero, mod-lt, arith}
use Rattle.std.proofs.Math.Nat.{div-add-mod, div-eq_of_lt-le}
use Rattle.integer.specs.Integer.{positive, negative, with_sign, minus}
use Rattle.std.specs.Int.Signed.{quot_z, rem_z}
use Rattle.integer.proofs.laws.IntegerLaws.{parts, parts-eq, parts-le, le_parts, add_parts, sub_parts, neg_parts, abs_neg}
use Rattle.integer.specs.Nearest.{nearest, IsNearest}
pub use Rattle.integer.proofs.laws.NearestAbsLaws.{nearest-abs}
use Rattle.integer.proofs.laws.BelowLaws.{lt_or_le}

-- ---- The rounded quotient of magnitudes

rounded : (m d : ℕ) → 0 < d → (2 * (d * ((2 * m + d) / (2 * d))) ≤ 2 * m + d) × (2 * m + d < 2 * (d * ((2 * m + d) / (2 * d))) + 2 * d)
rounded m d h = let k : 0 < 2 * d = omega arith in omega (arith, div-add-mod (2 * m + d) (2 * d), mod-lt (2 * m + d) k)

-- ---- The property

record Scaled (d : ℕ) (r : ℤ) : Type 0 where
  pos-part : positive (pos d *ℤ r) ≡ d * positive r
  neg_part : negative (pos d *ℤ r) ≡ d * negative r

scaled : (d : ℕ) (r : ℤ) → Scaled d r
scaled d (pos n) = record { pos-part = refl; neg_part = sym (mul-zero d) }
scaled d (negsuc n) = record { pos-part = (neg_parts (pos (d * suc n))).pos-part ∙ sym (mul-zero d); neg_part = (neg_parts (pos (d * suc n))).neg_part }

pub nearest-is : (z : ℤ) (d : ℕ) → 0 < d → IsNearest z d (nearest z d)
unfolding nearest with_sign
nearest-is (pos m) d h =
    let q : ℕ = (2 * m + d) / (2 * d) in
    let k = rounded m d h in
    let s = sub_parts (pos (d * q)) (pos m) in
    let p = parts (pos (d * q) -ℤ pos m) in
    record { within = omega arith; tie = λ e. omega arith }
nearest-is (negsuc n) d h =
    let q : ℕ = (2 * suc n + d) / (2 * d) in
    let a : ℤ = pos d *ℤ minus q in
    let k = rounded (suc n) d h in
    let v = scaled d (minus q) in
    let w = neg_parts (pos q) in
    let f : d * negative (minus q) ≡ d * q = ap (λ (x : ℕ). d * x) w.neg_part in
    let g : d * positive (minus q) ≡ 0 = ap (λ (x : ℕ). d * x) w.pos-part ∙ mul-zero d in
    let s = sub_parts a (negsuc n) in
    let p = parts (a -ℤ negsuc n) in
    let p2 = parts a in
    record { within = omega arith; tie = λ e. omega arith }

-- the multiples by d of two numbers, the first below the second, are d or more apart
multiples_apart : (d : ℕ) (r s : ℤ) → positive r + negative s < positive s + negative r
    → positive (pos d *ℤ r) + negative (pos d *ℤ s) + d ≤ positive (pos d *ℤ s) + negative (pos d *ℤ r)
multiples_apart d r s l =
    let u = scaled d r in
    let v = scaled d s in
    let m : d * (positive r + negative s + 1) ≤ d * (positive s + negative r) = mul-le-mul (le_refl d) (omega arith) in
    omega (arith, mul-add d (positive r + negative s) 1, mul-add d (positive r) (negative s), mul-add d (positive s) (negative r))

-- two multiples of d, a below b, that lie just half of d on each side of z = zp - zn: one of them is nearer to zero than z
apart : (d ap an bp bn zp zn : ℕ) → 0 < d → 2 * (bp + zn) ≡ 2 * (zp + bn) + d → 2 * (zp + an) ≡ 2 * (ap + zn) + d
    → min ap an ≡ 0 → min bp bn ≡ 0 → zp + zn ≤ ap + an → zp + zn ≤ bp + bn → ((d ≤ bp) × (bn ≡ 0)) ⊎ ((d ≤ an) × (ap ≡ 0)) → ⊥
apart d ap an bp bn zp zn h eb ea ma mb la lb (inl k) = omega (arith, k.0, k.1)
apart d ap an bp bn zp zn h eb ea ma mb la lb (inr k) = omega (arith, k.0, k.1)

-- of two nearest numbers neither is below the other
not_below : (z : ℤ) (d : ℕ) (r s : ℤ) → 0 < d → IsNearest z d r → IsNearest z d s → positive r + negative s < positive s + negative r → ⊥
not_below z d r s h x y l =
    let a : ℤ = pos d *ℤ r in
    let b : ℤ = pos d *ℤ s in
    let u = scaled d r in
    let v = scaled d s in
    let m : d * (positive r + negative s + 1) ≤ d * (positive s + negative r) = mul-le-mul (le_refl d) (omega arith) in
    let far = multiples_apart d r s l in
    let da = sub_parts a z in
    let db = sub_parts b z in
    let wa = x.within in
    let wb = y.within in
    let ta : 2 * nat_abs (a -ℤ z) ≡ d = omega (arith, (parts (a -ℤ z)).abs, (parts (b -ℤ z)).abs) in
    let tb : 2 * nat_abs (b -ℤ z) ≡ d = omega (arith, (parts (a -ℤ z)).abs, (parts (b -ℤ z)).abs) in
    let la = x.tie ta in
    let lb = y.tie tb in
    apart d (positive a) (negative a) (positive b) (negative b) (positive z) (negative z) h
    (omega (arith, (parts (a -ℤ z)).abs, (parts (b -ℤ z)).abs)) (omega (arith, (parts (a -ℤ z)).abs, (parts (b -ℤ z)).abs))
    (parts a).one (parts b).one
    (omega (arith, (parts z).abs, (parts a).abs)) (omega (arith, (parts z).abs, (parts b).abs))
    (⊎_elim (λ k. inl (above s k)) (λ k. inr (below r (omega arith))) (lt_or_le 0 (positive s)))
  where
    above : (t : ℤ) → 0 < positive t → (d ≤ positive (pos d *ℤ t)) × (negative (pos d *ℤ t) ≡ 0)
    above (pos n) k = (omega (arith, mul-le-mul (le_refl d) k), refl)
    above (negsuc n) k = absurd (omega arith)

    below : (t : ℤ) → 0 < negative t → (d ≤ negative (pos d *ℤ t)) × (positive (pos d *ℤ t) ≡ 0)
    below (pos n) k = absurd (omega arith)
    below (negsuc n) k = let v = scaled d (negsuc n) in (omega (arith, mul-le-mul (le_refl d) k), v.pos-part ∙ mul-zero d)

-- the property determines the number
pub nearest-unique : (z : ℤ) (d : ℕ) (r s : ℤ) → 0 < d → IsNearest z d r → IsNearest z d s → r ≡ s
nearest-unique z d r s h x y =
    ⊎_elim (λ l. absurd (not_below z d r s h x y l))
    (λ l. ⊎_elim (λ k. absurd (not_below z d s r h y x k)) (λ k. parts-eq r s (omega arith)) (lt_or_le (positive s + negative r) (positive r + negative s)))
    (lt_or_le (positive r + negative s) (positive s + negative r))

-- ---- Bounds: what lies between d times two whole numbers is rounded to one between them

pub nearest-ge : (z : ℤ) (d : ℕ) (l : ℤ) → 0 < d → (pos d *ℤ l) ≤ℤ z → l ≤ℤ nearest z d
nearest-ge z d l h k =
    let r : ℤ = nearest z d in
    let w = (nearest-is z d h).within in
    let e = le_parts k in
    ⊎_elim (λ m. absurd (omega (arith, multiples_apart d r l m, sub_parts (pos d *ℤ r) z, (parts (pos d *ℤ r -ℤ z)).abs))) (λ m. parts-le m)
    (lt_or_le (positive r + negative l) (positive l + negative r))

pub nearest-le : (z : ℤ) (d : ℕ) (u : ℤ) → 0 < d → z ≤ℤ (pos d *ℤ u) → nearest z d ≤ℤ u
nearest-le z d u h k =
    let r : ℤ = nearest z d in
    let w = (nearest-is z d h).within in
    let e = le_parts k in
    ⊎_elim (λ m. absurd (omega (arith, multiples_apart d u r m, sub_parts (pos d *ℤ r) z, (parts (pos d *ℤ r -ℤ z)).abs))) (λ m. parts-le m)
    (lt_or_le (positive u + negative r) (positive r + negative u))

-- ---- Signed division: the quotient cut toward zero, the remainder with the sign of z

pub quotient-abs : (z : ℤ) (d : ℕ) → nat_abs (quot_z z (pos d)) ≡ nat_abs z / d
quotient-abs (pos m) d = refl
quotient-abs (negsuc n) d = abs_neg (pos (suc n / d))

pub remainder-abs : (z : ℤ) (d : ℕ) → nat_abs (rem_z z (pos d)) ≡ nat_abs z % d
remainder-abs (pos m) d = refl
remainder-abs (negsuc n) d = abs_neg (pos (suc n % d))

-- a remainder below half of d: the quotient is nearest
rounded-cut : (m d : ℕ) → 2 * (m % d) < d → (2 * m + d) / (2 * d) ≡ m / d
rounded-cut m d h = div-eq_of_lt-le (2 * d) (omega (arith, div-add-mod m d)) (omega (arith, div-add-mod m d))

-- else one further from zero is
rounded-away : (m d : ℕ) → 0 < d → d ≤ 2 * (m % d) → (2 * m + d) / (2 * d) ≡ m / d + 1
rounded-away m d k h =
    div-eq_of_lt-le (2 * d) (omega (arith, div-add-mod m d)) (omega (arith, div-add-mod m d, mod-lt m k))

minus-more : (q : ℕ) → minus (q + 1) ≡ minus q +ℤ minus 1
minus-more q = parts-eq (minus (q + 1)) (minus q +ℤ minus 1) (omega (arith, neg_parts (pos (q + 1)), neg_parts (pos q), add_parts (minus q) (minus 1)))

pub nearest-cut : (z : ℤ) (d : ℕ) → 2 * nat_abs (rem_z z (pos d)) < d → nearest z d ≡ quot_z z (pos d)
unfolding nearest with_sign
nearest-cut (pos m) d h = ap pos (rounded-cut m d h)
nearest-cut (negsuc n) d h = ap minus (rounded-cut (suc n) d (rw (remainder-abs (negsuc n) d) at h))

pub nearest-away : (z : ℤ) (d : ℕ) → 0 < d → d ≤ 2 * nat_abs (rem_z z (pos d)) → nearest z d ≡ quot_z z (pos d) +ℤ with_sign z 1
unfolding nearest with_sign
nearest-away (pos m) d k h = ap pos (rounded-away m d k h)
nearest-away (negsuc n) d k h = ap minus (rounded-away (suc n) d k (rw (remainder-abs (negsuc n) d) at h)) ∙ minus-more (suc n / d)

-- ---- The sign cases at the tie

pub record ToCents : Type 0 where
  pub below : nearest (pos 499) 1000 ≡ pos 0
  pub tie : nearest (pos 500) 1000 ≡ pos 1
  pub below_negative : nearest (minus 499) 1000 ≡ pos 0
  pub tie_negative : nearest (minus 500) 1000 ≡ minus 1

pub to_cents : ToCents
unfolding nearest with_sign
to_cents = record { below = refl; tie = refl; below_negative = refl; tie_negative = refl }
