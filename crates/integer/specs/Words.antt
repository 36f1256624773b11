-- What a loop does to lent words: a fill from the front, a part that is lent onward, rows of words at a stride. Assumes nothing.
use Rattle.std.specs.Prelude.{Bool, cond, ◌&&◌, List, ◌++◌, ℕ, ◌+◌, ◌*◌, ◌-◌, ◌/◌, ◌%◌, leb, ltb, ℤ, pos, length, get_or, take, drop}
use Rattle.integer.specs.Below.{turns, tabulate}

-- the word at an index, 0 past the end
abbrev pub word : List ℤ → ℕ → ℤ
word xs i = get_or xs i (pos 0)

-- f k stored at each k below i, the words from i on kept
abbrev pub filled {ℓ} : {A : Type ℓ} → ℕ → (ℕ → A) → List A → List A
filled i f xs = tabulate i f ++ drop i xs

-- the n words of xs from i on
abbrev pub part {ℓ} : {A : Type ℓ} → List A → ℕ → ℕ → List A
part xs i n = take n (drop i xs)

-- k lies from a to e
abbrev pub inside : ℕ → ℕ → ℕ → Bool
inside a e k = leb a k && ltb k e

-- the words from a to e by f of the index, the others kept
abbrev pub patched {ℓ} : {A : Type ℓ} → A → ℕ → ℕ → (ℕ → A) → List A → List A
patched d a e f xs = tabulate (length xs) (λ k. cond (inside a e k) (f k) (get_or xs k d))

-- g applied to the words from a to e, the others kept
abbrev pub on_part {ℓ} : {A : Type ℓ} → ℕ → ℕ → (List A → List A) → List A → List A
on_part a e g xs = take a xs ++ (g (take (e - a) (drop a xs)) ++ drop (e - a) (drop a xs))

-- row h of a grid of rows of m words, from base on and stride words apart: `val h j` is its word j
unfoldable pub grid_row {ℓ} : {A : Type ℓ} → ℕ → ℕ → ℕ → (ℕ → ℕ → A) → ℕ → List A → List A
grid_row base stride m val h = on_part (base + h * stride) (base + h * stride + m) (λ p. tabulate (length p) (val h))

-- the rows below n
unfoldable pub grid {ℓ} : {A : Type ℓ} → ℕ → ℕ → ℕ → (ℕ → ℕ → A) → ℕ → List A → List A
grid base stride m val n = turns n (grid_row base stride m val)

-- every word after the rows below n, by its index
unfoldable pub grid_words {ℓ} : {A : Type ℓ} → A → ℕ → ℕ → ℕ → (ℕ → ℕ → A) → ℕ → List A → List A
grid_words d base stride m val n xs =
    tabulate (length xs)
    (λ k. cond (inside base (base + n * stride) k && ltb ((k - base) % stride) m) (val ((k - base) / stride) ((k - base) % stride)) (get_or xs k d))
