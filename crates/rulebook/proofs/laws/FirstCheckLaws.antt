-- What a list of checks answers: the first that strikes, told as an answer of any type. Assumes nothing.
use Rattle.std.specs.Prelude.{◌≡◌, Bool, ℕ, ◌<◌}
use Rattle.std.proofs.Math.Path.{refl, sym, ap}
use Rattle.std.proofs.Common.{◌∙◌, arith}
use Rattle.std.proofs.Math.Bool.{true, false, cond}
use mathlib.Core.List.{List, [], ◌∷◌, ◌++◌}
use Rattle.integer.specs.Below.{Each}
use Rattle.rulebook.specs.Checks.{Check, NoneStrikes, FirstStrikes}

-- the answer of the first check that strikes, and a where none does
unfoldable pub first_or : {A : Type 0} → (ℕ → ℕ → A) → List Check → A → A
first_or told [] a = a
first_or told (c ∷ cs) a = cond c.holds (told c.number c.position) (first_or told cs a)

pub first-append : {A : Type 0} (told : ℕ → ℕ → A) (xs ys : List Check) (a : A) → first_or told (xs ++ ys) a ≡ first_or told xs (first_or told ys a)
unfolding first_or
first-append told [] ys a = refl
first-append told (c ∷ xs) ys a = ap (λ x. cond c.holds (told c.number c.position) x) (first-append told xs ys a)

pub first-none : {A : Type 0} (told : ℕ → ℕ → A) (cs : List Check) (a : A) → NoneStrikes cs → first_or told cs a ≡ a
unfolding first_or
first-none told [] a e = refl
first-none told (c ∷ cs) a e = rw e.0 (first-none told cs a e.1)

pub first-shows : {A : Type 0} (told : ℕ → ℕ → A) (cs : List Check) (a : A) (n p : ℕ) → FirstStrikes cs n p → first_or told cs a ≡ told n p
unfolding first_or
first-shows told cs a n p f =
    rw f.order (first-append told f.before (f.check ∷ f.after) a ∙ first-none told f.before _ f.passed ∙ rw (f.struck, f.number, f.position))

-- where an answer tells its number and position, and a's number is 0
module _ {A : Type 0} (told : ℕ → ℕ → A) (number position : A → ℕ) (told-number : (n p : ℕ) → number (told n p) ≡ n) (told-position : (n p : ℕ) → position (told n p) ≡ p) (a : A) (zero : number a ≡ 0) where
  pub first_finds : (cs : List Check) (n p : ℕ) → 0 < n → first_or told cs a ≡ told n p → FirstStrikes cs n p
  unfolding first_or
  first_finds [] n p h e = absurd (let z : 0 ≡ n = sym zero ∙ ap number e ∙ told-number n p in omega arith)
  first_finds (c ∷ cs) n p h e = by c.holds refl e (first_finds cs n p h)
    where
      by : (b : Bool) → c.holds ≡ b → cond b (told c.number c.position) (first_or told cs a) ≡ told n p
          → (first_or told cs a ≡ told n p → FirstStrikes cs n p) → FirstStrikes (c ∷ cs) n p
      by true s q r = record {
        before = [];
        check = c;
        after = cs;
        order = refl;
        passed = tt;
        struck = s;
        number = sym (told-number c.number c.position) ∙ ap number q ∙ told-number n p;
        position = sym (told-position c.number c.position) ∙ ap position q ∙ told-position n p;
      }
      by false s q r =
          let f = r q in
          record { before = c ∷ f.before; check = f.check; after = f.after; order = ap (λ l. c ∷ l) f.order; passed = (s, f.passed); struck = f.struck; number = f.number; position = f.position }

  pub first-clear : (cs : List Check) → Each (λ c. 0 < c.number) cs → number (first_or told cs a) ≡ 0 → NoneStrikes cs
  unfolding first_or
  first-clear [] h e = tt
  first-clear (c ∷ cs) h e = by c.holds refl e (first-clear cs h.1)
    where
      by : (b : Bool) → c.holds ≡ b → number (cond b (told c.number c.position) (first_or told cs a)) ≡ 0
          → (number (first_or told cs a) ≡ 0 → NoneStrikes cs) → NoneStrikes (c ∷ cs)
      by true s q r = absurd (let z : c.number ≡ 0 = sym (told-number c.number c.position) ∙ q in let y = h.0 in omega arith)
      by false s q r = (s, r q)
