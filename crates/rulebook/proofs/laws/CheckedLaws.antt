-- Checks in turn: which of them struck, and what is returned where they are met. Assumes nothing.
use Rattle.std.specs.Prelude.{◌≡◌, refl, Bool, true, false, ◌↔◌, ◌≢◌, ℕ, eqb}
use Rattle.std.proofs.Common.{ap, arith}
use Rattle.std.proofs.lemmas.Bool.{eqb-false}
use Rattle.rulebook.specs.Numbers.{checked}

-- a test that passes exactly if P fails exactly if not P
pub test-fails : {P : Type 0} (t : Bool) → (t ≡ true) ↔ P → (t ≡ false) ↔ (¬ P)
test-fails true says = (λ e. absurd (let z : ◌≡◌ {A = ℕ} 0 1 = cc in omega arith), λ n. absurd (n (says.0 refl)))
test-fails false says = (λ e p. let f = says.1 p in let z : ◌≡◌ {A = ℕ} 0 1 = cc in omega arith, λ n. refl)

-- ---- One check after another

-- what the rest says where the check is met
pub then_where : {A B C D : Type 0} → A ↔ (B × C) → (B → C ↔ D) → A ↔ (B × D)
then_where f g = (λ a. let r = f.0 a in (r.0, (g r.0).0 r.1), λ r. f.1 (r.0, (g r.0).1 r.1))

pub then : {A B C D : Type 0} → A ↔ (B × C) → C ↔ D → A ↔ (B × D)
then f g = then_where f (λ b. g)

module _ {A : Type 0} (number : A → ℕ) where
  -- results of different numbers differ
  pub differ : (r s : A) → eqb (number r) (number s) ≡ false → r ≢ s
  differ r s h e = eqb-false (number r) (number s) h (ap number e)

  -- a check of P that struck, or was met
  module _ {P : Type 0} (t : Bool) (says : (t ≡ true) ↔ P) (refusal rest : A) where
    pub struck : eqb (number rest) (number refusal) ≡ false → (checked t refusal rest ≡ refusal) ↔ (¬ P)
    struck h = by t (test-fails t says)
      where
        by : (t : Bool) → (t ≡ false) ↔ (¬ P) → (checked t refusal rest ≡ refusal) ↔ (¬ P)
        by true f = (λ e. absurd (differ rest refusal h e), λ n. absurd (let k = f.1 n in let z : ◌≡◌ {A = ℕ} 0 1 = cc in omega arith))
        by false f = (λ e. f.0 refl, λ n. refl)

    pub met : (other : A) → eqb (number refusal) (number other) ≡ false → (checked t refusal rest ≡ other) ↔ (P × (rest ≡ other))
    met other h = by t says
      where
        by : (t : Bool) → (t ≡ true) ↔ P → (checked t refusal rest ≡ other) ↔ (P × (rest ≡ other))
        by true f = (λ e. (f.0 refl, e), λ r. r.1)
        by false f = (λ e. absurd (differ refusal other h e), λ r. absurd (let k = f.1 r.0 in let z : ◌≡◌ {A = ℕ} 0 1 = cc in omega arith))

    -- the last check
    pub met-last : eqb (number refusal) (number rest) ≡ false → (checked t refusal rest ≡ rest) ↔ P
    met-last h = let r = met rest h in (λ e. (r.0 e).0, λ p. r.1 (p, refl))
