-- Verdicts in order: the first refusal of several checks. Assumes nothing.
use Rattle.std.specs.Prelude.{◌≡◌, refl, List, ℕ, zero, suc, ◌+◌, ◌*◌, ◌≤◌, ◌<◌, length, Ok, Err}
use Rattle.std.proofs.Common.{sym, ap, ◌∙◌, suc-mul, arith}
use borrow.Author.Tests.{le-leb, lt-leb}
use Rattle.integer.specs.Below.{fold}
use Rattle.integer.proofs.laws.BelowLaws.{fold-cong, fold-unit}
use Rattle.rulebook.specs.declared.Why.{Why}
use Rattle.rulebook.specs.declared.Why.TheVariants.{NotWhole}
use Rattle.rulebook.specs.Judging.{Verdict, refused}
use Rattle.rulebook.specs.File.{num}
use Rattle.rulebook.specs.Judging.{◌and_then◌, up_to, field_in}

-- ---- One after another

pub then_assoc : (x y z : Verdict) → (x and_then y) and_then z ≡ x and_then (y and_then z)
then_assoc (Ok tt) y z = refl
then_assoc (Err r) y z = refl

pub then_accepted : (x : Verdict) → x and_then (Ok tt) ≡ x
then_accepted (Ok tt) = refl
then_accepted (Err r) = refl

-- what comes after matters only where all before was accepted
pub then_same : (x y z : Verdict) → (x ≡ (Ok tt) → y ≡ z) → x and_then y ≡ x and_then z
then_same (Ok tt) y z h = h refl
then_same (Err r) y z h = refl

-- ---- up_to

pub up_all : (n : ℕ) (f : ℕ → Verdict) → ((i : ℕ) → i < n → f i ≡ (Ok tt)) → up_to n f ≡ (Ok tt)
up_all = fold-unit ◌and_then◌ (Ok tt) refl

pub up_cong : (n : ℕ) (f g : ℕ → Verdict) → ((i : ℕ) → i < n → f i ≡ g i) → up_to n f ≡ up_to n g
up_cong = fold-cong ◌and_then◌ (Ok tt)

-- the first of n checks first
pub up_front : (n : ℕ) (f : ℕ → Verdict) → up_to (suc n) f ≡ f 0 and_then up_to n (λ i. f (suc i))
unfolding fold
up_front zero f = sym (then_accepted (f 0))
up_front (suc n) f = ap (λ x. x and_then f (suc n)) (up_front n f) ∙ then_assoc (f 0) _ _

up_add : (n m : ℕ) (f : ℕ → Verdict) → up_to (n + m) f ≡ up_to n f and_then up_to m (λ i. f (n + i))
unfolding fold
up_add n zero f = let z : n + 0 ≡ n = omega arith in rw z (sym (then_accepted (up_to n f)))
up_add n (suc m) f = let z : n + suc m ≡ suc (n + m) = omega arith in rw (z, up_add n m f) (then_assoc (up_to n f) _ _)

-- m times w checks
pub up_rows : (m w : ℕ) (f : ℕ → Verdict) → up_to (m * w) f ≡ up_to m (λ h. up_to w (λ i. f (h * w + i)))
unfolding fold
up_rows zero w f = let z : 0 * w ≡ 0 = omega arith in rw z
up_rows (suc m) w f = rw (suc-mul m w, up_add (m * w) w f, up_rows m w f)

-- ---- Fields

module _ (n low high : ℕ) (why : Why) (s : List ℕ) (at : ℕ) where
  pub field_cut : length s < at + n → field_in n low high why s at ≡ refused NotWhole at
  unfolding field_in
  field_cut h = rw (lt-leb (at + n) (length s) h)

  pub field-fine : at + n ≤ length s → low ≤ num n s at → num n s at ≤ high → field_in n low high why s at ≡ (Ok tt)
  unfolding field_in
  field-fine w l h = rw (le-leb (at + n) (length s) w, le-leb low (num n s at) l, le-leb (num n s at) high h)
