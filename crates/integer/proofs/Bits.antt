-- Signed 64-bit words: what the machine's operations read and write. `Holds bits z` ties the bits to the integer. Assumes nothing.
use Rattle.std.specs.Prelude.{◌≡◌, refl, ℕ, ◌+◌, ◌*◌, ◌<◌, ◌^◌, ℤ, pos, neg_ℤ, nat_abs, ◌+ℤ◌, ◌-ℤ◌, ◌*ℤ◌}
use Rattle.std.proofs.Common.{sym, ap, ◌∙◌, SFits, to_z, of_z, arith}
use Rattle.std.specs.Int.Signed.{mag}
use Rattle.std.specs.Int.{w64}
use Rattle.std.proofs.lemmas.Int.{to_z-of_z}
use Rattle.integer.specs.Integer.{positive, negative}
use Rattle.integer.proofs.laws.IntegerLaws.{Parts, parts, read-abs, fits-abs, abs-add, abs-sub, abs_neg, abs-mul}

-- ---- What is read back

-- what is known of a number that fits and is read back
pub record Known (z : ℤ) : Type 0 where
  pub of : Parts z
  pub read_pos : positive (to_z w64 (of_z w64 z)) ≡ positive z
  pub read-neg : negative (to_z w64 (of_z w64 z)) ≡ negative z
  pub read-size : nat_abs (to_z w64 (of_z w64 z)) ≡ nat_abs z

pub known : {z : ℤ} → SFits w64 z → Known z
known {z} f = record { of = parts z; read_pos = ap positive (to_z-of_z w64 z f); read-neg = ap negative (to_z-of_z w64 z f); read-size = read-abs f }

-- what is read back of a call's result: `got c.f.result c.f.ok`
pub got : (z : ℤ) → mag z < 2 ^ 63 → to_z w64 (of_z w64 z) ≡ z
got z h = to_z-of_z w64 z (record { sfits = h })

-- two numbers of the same bits are the same
pub same_bits : {a b : ℤ} → SFits w64 a → SFits w64 b → of_z w64 a ≡ of_z w64 b → a ≡ b
same_bits {a} {b} f g e = sym (to_z-of_z w64 a f) ∙ ap (to_z w64) e ∙ to_z-of_z w64 b g

-- ---- What fits

pub fits-add : (a b : ℤ) → nat_abs a + nat_abs b < 2 ^ 63 → SFits w64 (a +ℤ b)
fits-add a b h = let m = abs-add a b in fits-abs (omega arith)

pub fits_sub : (a b : ℤ) → nat_abs a + nat_abs b < 2 ^ 63 → SFits w64 (a -ℤ b)
fits_sub a b h = let m = abs-sub a b in fits-abs (omega arith)

pub fits_neg : (a : ℤ) → nat_abs a < 2 ^ 63 → SFits w64 (neg_ℤ a)
fits_neg a h = let e = abs_neg a in fits-abs (omega arith)

pub fits-mul : (a b : ℤ) → nat_abs a * nat_abs b < 2 ^ 63 → SFits w64 (a *ℤ b)
fits-mul a b h = let m = abs-mul a b in fits-abs (omega arith)

-- ---- Bits that hold an integer

-- a record, so that both can be inferred
pub record Holds (bits : ℕ) (z : ℤ) : Type 0 where
  pub is : to_z w64 bits ≡ z

-- a parameter's bits: `holds c.fits.x`
pub holds : {z : ℤ} → SFits w64 z → Holds (of_z w64 z) z
holds {z} f = record { is = to_z-of_z w64 z f }

-- those of a call's result, or of an element that was read: `holds-ok z c.f.ok`
pub holds-ok : (z : ℤ) → mag z < 2 ^ 63 → Holds (of_z w64 z) z
holds-ok z h = record { is = got z h }

pub holds-bits : (m : ℕ) → Holds m (to_z w64 m)
holds-bits m = record { is = refl }

-- a cast of an unsigned number
pub holds-nat : (n : ℕ) → n < 2 ^ 63 → Holds n (pos n)
holds-nat n h = record { is = got (pos n) h }

pub holds_as : {m : ℕ} {a b : ℤ} → a ≡ b → Holds m a → Holds m b
holds_as e h = record { is = h.is ∙ e }

-- one operation: it is defined, and what it writes holds the result
module _ (op : ℤ → ℤ → ℤ) {m n : ℕ} {a b : ℤ} (e : Holds m a) (f : Holds n b) (g : SFits w64 (op a b)) where
  pub op_fits : SFits w64 (op (to_z w64 m) (to_z w64 n))
  op_fits = rw (e.is, f.is) g

  pub op_holds : Holds (of_z w64 (op (to_z w64 m) (to_z w64 n))) (op a b)
  op_holds = record { is = rw (e.is, f.is) (to_z-of_z w64 (op a b) g) }
