-- What an answer, told where a test passes, says of the test. Assumes nothing.
use Rattle.std.specs.Prelude.{◌≡◌, refl, Bool, true, false, cond, ◌&&◌, List, [], ◌∷◌, ℤ, Ok, Err, length}
use Rattle.std.proofs.Common.{sym, ap, ◌∙◌}
use Rattle.std.specs.List.{list_all}
use Rattle.std.proofs.Math.Bool.{and_assoc}
use Rattle.integer.specs.Below.{fold, all}
use Rattle.integer.specs.Words.{word}
use Rattle.integer.proofs.laws.BelowLaws.{fold-front}

pub told_ok : {A E : Type 0} (t : Bool) (a : A) (e : E) {x : A} → Ok x ≡ cond t (Ok a) (Err e) → (t ≡ true) × (x ≡ a)
told_ok true a e h = (refl, cc)
told_ok false a e h = cc

pub told_err : {A E : Type 0} (t : Bool) (a : A) (e : E) {x : E} → Err x ≡ cond t (Ok a) (Err e) → (t ≡ false) × (x ≡ e)
told_err true a e h = cc
told_err false a e h = (refl, cc)

right_unit : (b : Bool) → (b && true) ≡ b
right_unit true = refl
right_unit false = refl

-- a test of every word, in list order, is that of every index
pub all_listed : (p : ℤ → Bool) (xs : List ℤ) → list_all p xs ≡ all (length xs) (λ i. p (word xs i))
unfolding fold
all_listed p [] = refl
all_listed p (x ∷ xs) = ap (λ t. p x && t) (all_listed p xs) ∙ sym (fold-front ◌&&◌ true (λ b. refl) right_unit and_assoc (length xs) (λ i. p (word (x ∷ xs) i)))
