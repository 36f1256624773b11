-- A test of every element of a list, by a fold and by places. Assumes nothing.
use Rattle.std.specs.Prelude.{◌≡◌, refl, Bool, true, ◌&&◌, List, [], ◌∷◌, ℕ, suc, length, get_or}
use Rattle.std.proofs.Common.{sym, ap, ◌∙◌}
use Rattle.std.proofs.Math.Bool.{and_assoc, and-true}
use Rattle.std.specs.List.{fold, list_all}
use Rattle.integer.specs.Below.{all}
use Rattle.integer.specs.Below.{fold as below}
use Rattle.integer.proofs.laws.BelowLaws.{fold-front}

-- every element is tested, also after one that fails
pub fold-all : {A : Type 0} (test : A → Bool) (ok : Bool) (xs : List A) → fold (λ b x. b && test x) ok xs ≡ (ok && list_all test xs)
fold-all test ok [] = sym (and-true ok)
fold-all test ok (x ∷ xs) = fold-all test (ok && test x) xs ∙ and_assoc ok (test x) (list_all test xs)

-- the first test taken apart
pub all-front : (n : ℕ) (p : ℕ → Bool) → all (suc n) p ≡ (p 0 && all n (λ k. p (suc k)))
all-front = fold-front ◌&&◌ true (λ x. refl) (λ x. and-true x) (λ x y z. and_assoc x y z)

-- by places
pub list-all : {A : Type 0} (test : A → Bool) (d : A) (xs : List A) → list_all test xs ≡ all (length xs) (λ k. test (get_or xs k d))
unfolding below
list-all test d [] = refl
list-all test d (x ∷ xs) = ap (λ b. test x && b) (list-all test d xs) ∙ sym (all-front (length xs) (λ k. test (get_or (x ∷ xs) k d)))

pub tests-folded : {A : Type 0} (test : A → Bool) (d : A) (xs : List A) → fold (λ b x. b && test x) true xs ≡ all (length xs) (λ k. test (get_or xs k d))
tests-folded test d xs = fold-all test true xs ∙ list-all test d xs
