-- The parts of one length that a list is read in, by their places. Assumes nothing.
use Rattle.std.specs.Prelude.{◌≡◌, List, [], ℕ, zero, suc, ◌+◌, ◌*◌, ◌<◌, ℤ, pos, get_or, take, drop}
use Rattle.std.proofs.Common.{sym, ap, ◌∙◌, add_comm, arith, get_or-take, get_or-drop}
use Rattle.std.proofs.Math.Nat.{zero-mul, suc-mul}
use Rattle.std.proofs.lemmas.List.{drop-drop}
use Rattle.std.specs.Simd.{first_chunks}
use Rattle.integer.specs.Words.{word, part}

-- the parts after the first
pub later : {A : Type 0} (n j : ℕ) (xs : List A) → part (drop n xs) (j * n) n ≡ part xs (suc j * n) n
later n j xs = rw (drop-drop, suc-mul j n, add_comm (j * n) n)

pub chunk-at : {A : Type 0} (n k j : ℕ) (xs d : List A) → j < k → get_or (first_chunks n k xs) j d ≡ part xs (j * n) n
chunk-at n zero j xs d h = absurd (omega arith)
chunk-at n (suc k) zero xs d h = ap (λ (i : ℕ). part xs i n) (sym (zero-mul n))
chunk-at n (suc k) (suc j) xs d h = chunk-at n k j (drop n xs) d (omega arith) ∙ later n j xs

-- word j of row b of rows of n words, read from word s on
pub chunk-word : (n k s m : ℕ) (x : List ℤ) (b j : ℕ) → b < k → j < n → b * n + j < m → word (get_or (first_chunks n k (take m (drop s x))) b []) j ≡ word x (s + (b * n + j))
chunk-word n k s m x b j h l i =
    rw (chunk-at n k b (take m (drop s x)) [] h)
    (get_or-take n (drop (b * n) (take m (drop s x))) j (pos 0) l
    ∙ get_or-drop (b * n) (take m (drop s x)) j (pos 0)
    ∙ get_or-take m (drop s x) (b * n + j) (pos 0) i
    ∙ get_or-drop s x (b * n + j) (pos 0))
