-- What stands from a place in a file on: numbers, values, and parts one after another. Assumes nothing.
use Rattle.std.specs.Prelude.{◌≡◌, ℕ, zero, suc, ◌+◌, ◌-◌, ◌/◌, ◌%◌, ◌≤◌, ◌<◌, ℤ, pos, negsuc, length, get_or, drop}
use Rattle.std.proofs.Common.{sym, ap, ◌∙◌, arith, lt-ltb, le-ltb, length-drop, drop-drop, get_or-drop}
use mathlib.Core.List.{List, ◌∷◌, ◌++◌, flat_map, append_assoc}
use Rattle.std.specs.Int.Signed.{mag}
use Rattle.integer.specs.Integer.{twos_complement}
use Rattle.integer.specs.Below.{tabulate}
use Rattle.rulebook.specs.File.{num, signed32, value_at}
use Rattle.rulebook.specs.Encoding.{bytes, twos, value_bytes}

-- from `at` on, the file is xs
pub record From (s : List ℕ) (at : ℕ) (xs : List ℕ) : Type 0 where
  pub left : drop at s ≡ xs
  pub inside : at ≤ length s

pub from_to : {s xs : List ℕ} {a b : ℕ} → a ≡ b → From s a xs → From s b xs
from_to e f = rw e at f

pub from_is : {s xs ys : List ℕ} {a : ℕ} → xs ≡ ys → From s a xs → From s a ys
from_is e f = rw e at f

-- ---- Numbers

from_byte : (s : List ℕ) (at b : ℕ) (xs : List ℕ) → From s at (b ∷ xs) → (get_or s at 0 ≡ b) × From s (at + 1) xs
from_byte s at b xs f =
    let z : at + 0 ≡ at = omega arith in
    let l : length s - at ≡ suc (length xs) = sym (length-drop at s) ∙ ap length f.left in (
      ap (λ k. get_or s k 0) (sym z) ∙ sym (get_or-drop at s 0 0) ∙ ap (λ l. get_or l 0 0) f.left,
      record { left = sym (drop-drop 1 at s) ∙ ap (drop 1) f.left; inside = omega arith },
    )

-- v fits n bytes
Fits : ℕ → ℕ → Type 0
Fits zero v = v ≡ 0
Fits (suc n) v = Fits n (v / 256)

from_number : (s : List ℕ) (n v at : ℕ) (xs : List ℕ) → Fits n v → From s at (bytes n v ++ xs) → (num n s at ≡ v) × From s (at + n) xs
unfolding Fits bytes num
from_number s zero v at xs h f = (sym h, from_to (omega arith) f)
from_number s (suc n) v at xs h f =
    let b = from_byte s at (v % 256) (bytes n (v / 256) ++ xs) f in
    let r = from_number s n (v / 256) (at + 1) xs h b.1 in
    (rw (b.0, r.0) (omega arith), from_to (omega arith) r.1)

pub from_one : (s : List ℕ) (v at : ℕ) (xs : List ℕ) → v < 256 → From s at (bytes 1 v ++ xs) → (num 1 s at ≡ v) × From s (at + 1) xs
unfolding Fits
from_one s v at xs h f = from_number s 1 v at xs (omega arith) f

pub from_two : (s : List ℕ) (v at : ℕ) (xs : List ℕ) → v < 65536 → From s at (bytes 2 v ++ xs) → (num 2 s at ≡ v) × From s (at + 2) xs
unfolding Fits
from_two s v at xs h f = from_number s 2 v at xs (omega arith) f

-- ---- Values

signed-twos : (v : ℤ) → mag v < 2147483648 → signed32 (twos v) ≡ v
unfolding twos_complement twos
signed-twos (pos n) h = rw (lt-ltb n 2147483648 h)
signed-twos (negsuc n) h =
    rw (le-ltb (4294967296 - suc n) 2147483648 (omega arith), lt-ltb (4294967296 - suc n) 4294967296 (omega arith)) (ap negsuc (omega arith))

twos_small : (v : ℤ) → mag v < 2147483648 → twos v < 4294967296
unfolding twos
twos_small (pos n) h = omega arith
twos_small (negsuc n) h = omega arith

-- value v stands whole at p
pub record Stands (s : List ℕ) (p : ℕ) (v : ℤ) : Type 0 where
  pub room : p + 4 ≤ length s
  pub is : value_at s p ≡ v

pub from_value : (s : List ℕ) (v : ℤ) (at : ℕ) (xs : List ℕ) → mag v < 2147483648 → From s at (value_bytes v ++ xs) → Stands s at v × From s (at + 4) xs
unfolding Fits value_bytes value_at
from_value s v at xs h f =
    let b = twos_small v h in
    let r = from_number s 4 (twos v) at xs (omega arith) f in
    (record { room = r.1.inside; is = ap signed32 r.0 ∙ signed-twos v h }, r.1)

-- ---- Parts one after another, e 0, e 1, .. their ends

pub from_table {ℓ} : {A : Type ℓ} (s : List ℕ) (f : A → List ℕ) (n : ℕ) (g : ℕ → A) (e : ℕ → ℕ) (P : ℕ → Type 0) (xs : List ℕ)
    → ((i : ℕ) (ys : List ℕ) → i < n → From s (e i) (f (g i) ++ ys) → P i × From s (e (suc i)) ys)
    → From s (e 0) (flat_map f (tabulate n g) ++ xs) → ((i : ℕ) → i < n → P i) × From s (e n) xs
unfolding flat_map tabulate
from_table s f zero g e P xs h w = ((λ i l. absurd (omega arith)), w)
from_table s f (suc n) g e P xs h w =
    let a = h 0 (flat_map f (tabulate n (λ k. g (suc k))) ++ xs) (omega arith) (from_is (append_assoc (f (g 0)) _ xs) w) in
    let b = from_table s f n (λ k. g (suc k)) (λ k. e (suc k)) (λ i. P (suc i)) xs (λ i ys l. h (suc i) ys (omega arith)) a.1 in
    (both a.0 b.0, b.1)
  where
    both : P 0 → ((i : ℕ) → i < n → P (suc i)) → (i : ℕ) → i < suc n → P i
    both p q zero l = p
    both p q (suc i) l = q i (omega arith)
