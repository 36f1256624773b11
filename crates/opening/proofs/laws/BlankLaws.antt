-- A list is blank part by part. Assumes nothing.
use Rattle.std.specs.Prelude.{◌≡◌, Bool, ◌&&◌, List, ℕ, zero, suc, ◌+◌, ◌*◌, ◌-◌, ◌≤◌, ℤ, pos, length, drop}
use Rattle.std.proofs.Common.{sym, ap, ap₂, ◌∙◌, length-drop, get_or-drop, add-zero, add-suc, suc-mul, zero-mul, arith}
use Rattle.std.proofs.Math.Bool.{and-true, and_assoc}
use Rattle.integer.specs.Below.{fold, all}
use Rattle.integer.specs.Words.{word, part}
use Rattle.integer.proofs.laws.WordsLaws.{row_fits_lem, length_part}
use Rattle.rulebook.proofs.laws.TestLaws.{all_same}
use Rattle.rulebook.specs.WellFormed.{is_zero}
use Rattle.opening.specs.Blank.{blank}
use Rattle.opening.proofs.laws.LoopLaws.{word-part}

-- m tests, and n more
pub all_add : (m n : ℕ) (p : ℕ → Bool) → all (m + n) p ≡ (all m p && all n (λ j. p (m + j)))
unfolding fold
all_add m zero p = rw add-zero (sym (and-true (all m p)))
all_add m (suc n) p = rw (add-suc, all_add m n p) (and_assoc (all m p) (all n (λ j. p (m + j))) (p (m + n)))

-- rows of n: the nested test is the flat one
pub all_rows : (m n : ℕ) (p : ℕ → Bool) → all m (λ h. all n (λ a. p (h * n + a))) ≡ all (m * n) p
unfolding fold
all_rows zero n p = rw zero-mul
all_rows (suc m) n p = rw (suc-mul, all_add (m * n) n p, all_rows m n p)

pub blank_part : (xs : List ℤ) (i n : ℕ) → i + n ≤ length xs → blank (part xs i n) ≡ all n (λ k. is_zero (word xs (i + k)))
unfolding blank
blank_part xs i n h = rw (length_part xs i n h) (all_same n _ _ (λ k l. ap is_zero (word-part xs i n k l)))

-- k rows of n words, and what follows them
pub blank-rows : (xs : List ℤ) (k n : ℕ) → k * n ≤ length xs → (all k (λ j. blank (part xs (j * n) n)) && blank (drop (k * n) xs)) ≡ blank xs
unfolding blank
blank-rows xs k n h =
    let zeros : ℕ → Bool = λ i. is_zero (word xs i) in
    let e : k * n + (length xs - k * n) ≡ length xs = omega arith in
    ap₂ ◌&&◌
    (all_same k _ _ (λ j l. blank_part xs (j * n) n (omega (arith, row_fits_lem j k n l))) ∙ all_rows k n zeros)
    (ap (λ (m : ℕ). all m (λ i. is_zero (word (drop (k * n) xs) i))) (length-drop (k * n) xs)
    ∙ all_same (length xs - k * n) _ _ (λ i l. ap is_zero (get_or-drop (k * n) xs i (pos 0))))
    ∙ sym (all_add (k * n) (length xs - k * n) zeros)
    ∙ ap (λ (m : ℕ). all m zeros) e
