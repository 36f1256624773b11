-- Lists that are tabulated, mapped or joined, and what holds of each element. Assumes nothing.
use Rattle.std.specs.Prelude.{◌≡◌, refl, ℕ, zero, suc, ◌<◌, length, get_or}
use Rattle.std.proofs.Common.{ap, not-suc-le-zero, arith}
use mathlib.Core.List.{List, [], ◌∷◌, ◌++◌, map, flat_map}
use Rattle.integer.specs.Below.{tabulate, Each}

-- ---- tabulate

pub tabulate-cong {ℓ} : {A : Type ℓ} (n : ℕ) (f g : ℕ → A) → ((k : ℕ) → k < n → f k ≡ g k) → tabulate n f ≡ tabulate n g
unfolding tabulate
tabulate-cong zero f g h = refl
tabulate-cong (suc n) f g h = rw (h 0 (omega arith), tabulate-cong n (λ k. f (suc k)) (λ k. g (suc k)) (λ k l. h (suc k) (omega arith)))

pub map-tabulate {ℓ ℓ'} : {A : Type ℓ} {B : Type ℓ'} (g : A → B) (n : ℕ) (f : ℕ → A) → map g (tabulate n f) ≡ tabulate n (λ i. g (f i))
unfolding tabulate
map-tabulate g zero f = refl
map-tabulate g (suc n) f = ap (λ l. g (f 0) ∷ l) (map-tabulate g n (λ k. f (suc k)))

pub map-append {ℓ ℓ'} : {A : Type ℓ} {B : Type ℓ'} (g : A → B) (xs ys : List A) → map g (xs ++ ys) ≡ map g xs ++ map g ys
map-append g [] ys = refl
map-append g (x ∷ xs) ys = ap (λ l. g x ∷ l) (map-append g xs ys)

-- ---- Each

pub each_of {ℓ} : {A : Type ℓ} (P : A → Type 0) (n : ℕ) (f : ℕ → A) → Each P (tabulate n f) → (k : ℕ) → k < n → P (f k)
unfolding tabulate
each_of P zero f e k l = absurd (not-suc-le-zero l)
each_of P (suc n) f e zero l = e.0
each_of P (suc n) f e (suc k) l = each_of P n (λ k. f (suc k)) e.1 k (omega arith)

pub each_at {ℓ} : {A : Type ℓ} (P : A → Type 0) (xs : List A) (d : A) → Each P xs → (i : ℕ) → i < length xs → P (get_or xs i d)
each_at P [] d e i l = absurd (not-suc-le-zero l)
each_at P (x ∷ xs) d e zero l = e.0
each_at P (x ∷ xs) d e (suc i) l = each_at P xs d e.1 i (omega arith)

pub each_map {ℓ} : {A : Type ℓ} (P Q : A → Type 0) (xs : List A) → ((x : A) → P x → Q x) → Each P xs → Each Q xs
each_map P Q [] h e = tt
each_map P Q (x ∷ xs) h e = (h x e.0, each_map P Q xs h e.1)

pub each_both {ℓ} : {A : Type ℓ} (P Q R : A → Type 0) (xs : List A) → ((x : A) → P x → Q x → R x) → Each P xs → Each Q xs → Each R xs
each_both P Q R [] h e f = tt
each_both P Q R (x ∷ xs) h e f = (h x e.0 f.0, each_both P Q R xs h e.1 f.1)

-- ---- flat_map

pub flat_map-cong {ℓ} : {A : Type ℓ} (f g : A → List ℕ) (xs : List A) → Each (λ x. f x ≡ g x) xs → flat_map f xs ≡ flat_map g xs
unfolding flat_map
flat_map-cong f g [] e = refl
flat_map-cong f g (x ∷ xs) e = rw (e.0, flat_map-cong f g xs e.1)
