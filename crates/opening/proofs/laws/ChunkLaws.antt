-- A list's tests, and those of its parts of one length, by their places. Assumes nothing.
use Rattle.std.specs.Prelude.{◌≡◌, refl, Bool, true, ◌&&◌, List, ◌∷◌, ℕ, zero, suc, ◌+◌, ◌*◌, ◌/◌, ◌%◌, ◌<◌, ◌++◌, length, get_or, take, drop, replicate}
use Rattle.std.proofs.Common.{sym, ap, ◌∙◌, zero-mul, zero-add, add-zero, suc-mul, length-append, arith}
use Rattle.std.proofs.lemmas.Nat.{div-add-mod', div-mul-add}
use Rattle.std.proofs.lemmas.Iterator.{YieldsList}
use Rattle.std.proofs.lemmas.Iterator.Splits.{YieldsList-from_shown_while}
use Rattle.std.proofs.Math.Nat.{mod-lt}
use Rattle.std.proofs.Math.Seq.{take-append_seam, drop-append_seam}
use Rattle.std.specs.Slice.Iter.{chunks_exact_rest, chunks_exact_size, chunks_exact_steps}
use Rattle.std.specs.List.{list_all, enumerate_from}
use Rattle.std.proofs.lemmas.List.FromFn.{length-enumerate_from, get_or-enumerate_from}
use Rattle.std.specs.Simd.{first_chunks}
use Rattle.integer.specs.Below.{all, tabulate}
use Rattle.integer.specs.Below.{fold as below}
use Rattle.integer.specs.Words.{part}
use Rattle.integer.proofs.laws.ChunkLaws.{later, chunk-at}
use Rattle.integer.proofs.laws.TestsLaws.{all-front}
use Rattle.integer.proofs.laws.BelowLaws.{fold-cong}

-- ---- Parts of n elements

-- k of them, one after another
pub all_chunks : {A : Type 0} (test : List A → Bool) (n k : ℕ) (xs : List A) → list_all test (first_chunks n k xs) ≡ all k (λ j. test (part xs (j * n) n))
unfolding below
all_chunks test n zero xs = refl
all_chunks test n (suc k) xs =
    ap (λ b. test (take n xs) && b) (all_chunks test n k (drop n xs) ∙ fold-cong ◌&&◌ true k _ _ (λ j l. ap test (later n j xs)))
    ∙ ap (λ (i : ℕ). test (part xs i n) && all k (λ j. test (part xs (suc j * n) n))) (sym (zero-mul n))
    ∙ sym (all-front k (λ j. test (part xs (j * n) n)))

-- one value everywhere
pub tabulate-same : {A : Type 0} (n : ℕ) (x : A) → tabulate n (λ k. x) ≡ replicate n x
unfolding tabulate
tabulate-same zero x = refl
tabulate-same (suc n) x = ap (λ xs. x ∷ xs) (tabulate-same n x)

-- ---- What `chunks_exact` gives

next-chunk : {A : Type 0} (n : ℕ) (xs x rest : List A) → 0 < n → xs ≡ x ++ rest → length x ≡ n → first_chunks n (length xs / n) xs ≡ x ∷ first_chunks n (length rest / n) rest
next-chunk n xs x rest some e l =
    let m : length rest / n * n + length rest % n ≡ length rest = div-add-mod' (length rest) n in
    let k : length (x ++ rest) ≡ suc (length rest / n) * n + length rest % n = length-append x rest ∙ omega (arith, suc-mul (length rest / n) n) in
    let d : length (x ++ rest) / n ≡ suc (length rest / n) = ap (λ i. i / n) k ∙ div-mul-add (suc (length rest / n)) n (length rest % n) (mod-lt (length rest) some) in
    let t : take n (x ++ rest) ≡ x = rw (← l) (take-append_seam x rest) in
    let r : drop n (x ++ rest) ≡ rest = rw (← l) (drop-append_seam x rest) in
    ap (λ ys. first_chunks n (length ys / n) ys) e ∙ ap (λ i. first_chunks n i (x ++ rest)) d ∙ ap (λ y. y ∷ first_chunks n (length rest / n) (drop n (x ++ rest))) t ∙ ap (λ y. x ∷ first_chunks n (length rest / n) y) r

div-below : (m n : ℕ) → m < n → m / n ≡ 0
div-below m n l = let e : 0 * n + m ≡ m = rw (zero-mul n, zero-add m) in ap (λ i. i / n) (sym e) ∙ div-mul-add 0 n m l

pub chunks-given : {A : Type 0} {s : _} (n : ℕ) (xs : List A) → 0 < n → chunks_exact_rest s ≡ xs → chunks_exact_size s ≡ n
    → YieldsList (chunks_exact_steps {A = A}) (λ y. y.now) s (first_chunks n (length xs / n) xs)
chunks-given {A} {s} n xs some e f =
    rw (← e, ← f)
    (YieldsList-from_shown_while (chunks_exact_steps {A = A}) (λ y. y.now) (λ u. first_chunks (chunks_exact_size u) (length (chunks_exact_rest u) / chunks_exact_size u) (chunks_exact_rest u)) (λ u. 0 < chunks_exact_size u)
    (λ u t p q. let none : length (chunks_exact_rest u) / chunks_exact_size u ≡ 0 = div-below _ _ q.1.0 in rw none)
    (λ u x t p q. (rw q.0 p, next-chunk (chunks_exact_size u) (chunks_exact_rest u) x.now (chunks_exact_rest t) p q.1.0 q.1.1 ∙ rw (← q.0)))
    s (rw f some))

pub length-chunks : {A : Type 0} (n k : ℕ) (xs : List A) → length (first_chunks n k xs) ≡ k
length-chunks n zero xs = refl
length-chunks n (suc k) xs = ap (λ i. suc i) (length-chunks n k (drop n xs))

pub chunks-of : (k n : ℕ) {m : ℕ} → 0 < n → m ≡ k * n → m / n ≡ k
chunks-of k n some e = ap (λ i. i / n) (e ∙ sym (add-zero (k * n))) ∙ div-mul-add k n 0 some

-- turn j of a loop over k chunks and their places
pub chunk-turn : {A : Type 0} (n k j : ℕ) (xs : List A) (v : ℕ) (x : List A) → 0 < n → length xs ≡ k * n
    → (j < length (enumerate_from 0 (first_chunks n (length xs / n) xs))) × (◌≡◌ {A = ℕ × List A} (v, x) (get_or (enumerate_from 0 (first_chunks n (length xs / n) xs)) j (v, x)))
    → (j < k) × (v ≡ j) × (x ≡ part xs (j * n) n)
chunk-turn {A} n k j xs v x some e t =
    let q = chunks-of k n some e in
    let f : length (enumerate_from 0 (first_chunks n (length xs / n) xs)) ≡ k = length-enumerate_from 0 (first_chunks n (length xs / n) xs) ∙ length-chunks n (length xs / n) xs ∙ q in
    let h : j < k = omega arith in
    let l : j < length (first_chunks n (length xs / n) xs) = rw (length-chunks n (length xs / n) xs, q) h in
    let p = t.1 ∙ get_or-enumerate_from 0 (first_chunks n (length xs / n) xs) j (v, x) l in
    (h, ap (λ (y : ℕ × List A). y.0) p ∙ zero-add j, ap (λ (y : ℕ × List A). y.1) p ∙ chunk-at n (length xs / n) j xs x (rw q h))
