-- What a counting loop computes: sums, tests, searches and tables over the numbers below n, in ascending order. Assumes nothing.
use Rattle.std.specs.Prelude.{Bool, true, false, cond, ◌&&◌, ◌||◌, List, [], ◌∷◌, ℕ, zero, suc, ◌+◌, ℤ, pos, ◌+ℤ◌, Option, Some, None}

-- f 0, f 1, .. f (n - 1) joined from the left, from e on
unfoldable pub fold {ℓ} : {A : Type ℓ} → (A → A → A) → A → ℕ → (ℕ → A) → A
fold op e zero f = e
fold op e (suc n) f = op (fold op e n f) (f n)

abbrev pub sum_ℕ : ℕ → (ℕ → ℕ) → ℕ
sum_ℕ n f = fold ◌+◌ 0 n f

abbrev pub sum_ℤ : ℕ → (ℕ → ℤ) → ℤ
sum_ℤ n f = fold ◌+ℤ◌ (pos 0) n f

-- the test passes at every number below n
abbrev pub all : ℕ → (ℕ → Bool) → Bool
all n p = fold ◌&&◌ true n p

-- the test passes at some number below n
abbrev pub any : ℕ → (ℕ → Bool) → Bool
any n p = fold ◌||◌ false n p

-- at how many numbers below n the test passes
abbrev pub count : ℕ → (ℕ → Bool) → ℕ
count n p = sum_ℕ n (λ i. cond (p i) 1 0)

unfoldable pub or_else : Option ℕ → Option ℕ → Option ℕ
or_else (Some i) y = Some i
or_else None y = y

-- what the first number below n that finds something finds
abbrev pub first : ℕ → (ℕ → Option ℕ) → Option ℕ
first n f = fold or_else None n f

-- n turns of a step from x, turn 0 first
unfoldable pub turns {ℓ} : {A : Type ℓ} → ℕ → (ℕ → A → A) → A → A
turns zero f x = x
turns (suc n) f x = f n (turns n f x)

-- the list f 0, f 1, .. f (n - 1)
unfoldable pub tabulate {ℓ} : {A : Type ℓ} → ℕ → (ℕ → A) → List A
tabulate zero f = []
tabulate (suc n) f = f 0 ∷ tabulate n (λ k. f (suc k))

-- P of every element of a list
abbrev pub Each {ℓ} : {A : Type ℓ} → (A → Type 0) → List A → Type 0
Each P [] = Unit {0}
Each P (x ∷ xs) = P x × Each P xs
