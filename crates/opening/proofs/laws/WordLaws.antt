-- What a test gave, and the machine's test of one word. Assumes nothing.
use Rattle.std.specs.Prelude.{◌≡◌, refl, Bool, true, false, cond, Some, None, zero, suc, ◌-◌, ◌^◌, ◌<◌, eqb, ℤ, pos, negsuc}
use Rattle.std.proofs.Common.{sym, ◌∙◌, arith, ne_eqb, of_z}
use Rattle.std.proofs.Math.Bool.{and-false}
use Rattle.std.proofs.lemmas.Bool.{lt-leb}
use Rattle.std.specs.Int.Signed.{mag}
use Rattle.std.specs.Int.{w64}
use Rattle.rulebook.specs.WellFormed.{is_zero}

-- what a test gave, by whether it gave something
pub given-none : {A : Type 0} (x : A) (b : Bool) → None ≡ cond b (Some x) None → b ≡ false
given-none x true e = cc
given-none x false e = refl

pub given-some : {A : Type 0} (x : A) {y : A} (b : Bool) → Some y ≡ cond b (Some x) None → (b ≡ true) × (y ≡ x)
given-some x true e = (refl, cc)
given-some x false e = cc

-- `==` compares bits
pub zero_bits : (z : ℤ) → mag z < 2 ^ 63 → eqb (of_z w64 z) 0 ≡ is_zero z
zero_bits (pos zero) h = refl
zero_bits (pos (suc n)) h = ne_eqb (suc n) 0 (λ e. omega arith) ∙ sym (simp (lt-leb (suc n) 0 (omega arith), and-false))
zero_bits (negsuc n) h = ne_eqb (2 ^ 64 - suc n) 0 (λ e. omega arith)
