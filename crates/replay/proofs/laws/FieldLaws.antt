-- Laws of fields: the library's reading of eight bytes is this one. Assumes nothing.
use Rattle.std.specs.Prelude.{◌≡◌, List, ℕ, ◌+◌, ◌*◌, ◌<◌, get_or, take, drop}
use Rattle.std.specs.Int.{w64, from_le_bytes}
use Rattle.std.proofs.Common.{refl, sym, ap, ◌∙◌, ⊎_elim, arith, add_assoc, lt-ltb, le-ltb, to_z, get_or-take, get_or-drop}
use Rattle.integer.specs.Integer.{twos_complement}
use Rattle.integer.proofs.laws.BelowLaws.{lt_or_le}
use Rattle.rulebook.specs.File.{num}
use Rattle.replay.specs.Fields.{signed64, word_in}

pub num-eight : (s : List ℕ) (at : ℕ)
    → num 8 s at
    ≡ get_or s at 0 + 256 * get_or s (at + 1) 0 + 65536 * get_or s (at + 2) 0 + 16777216 * get_or s (at + 3) 0
    + 4294967296 * get_or s (at + 4) 0 + 1099511627776 * get_or s (at + 5) 0 + 281474976710656 * get_or s (at + 6) 0 + 72057594037927936 * get_or s (at + 7) 0
unfolding num
num-eight s at = simp add_assoc (omega arith)

-- a word of 64 bits, read as signed
pub signed-word : (n : ℕ) → n < 18446744073709551616 → to_z w64 n ≡ signed64 n
unfolding twos_complement
signed-word n h =
    ⊎_elim (λ l. rw (lt-ltb n 9223372036854775808 l))
    (λ l. rw (le-ltb n 9223372036854775808 l, lt-ltb n 18446744073709551616 h))
    (lt_or_le n 9223372036854775808)

-- eight bytes from `at` on
byte-at : (s : List ℕ) (at k j : ℕ) → k < 8 → at + k ≡ j → get_or (take 8 (drop at s)) k 0 ≡ get_or s j 0
byte-at s at k j h e = rw (get_or-take, get_or-drop, e)

low-first : (x : List ℕ)
    → from_le_bytes w64 x
    ≡ get_or x 0 0 + get_or x 1 0 * 256 + get_or x 2 0 * 65536 + get_or x 3 0 * 16777216
    + get_or x 4 0 * 4294967296 + get_or x 5 0 * 1099511627776 + get_or x 6 0 * 281474976710656 + get_or x 7 0 * 72057594037927936
low-first x = refl

pub eight-bytes : (s : List ℕ) (at : ℕ) → from_le_bytes w64 (take 8 (drop at s)) ≡ num 8 s at
eight-bytes s at =
    low-first (take 8 (drop at s))
    ∙ omega (arith, num-eight s at, byte-at s at 0 at (omega arith) (omega arith), byte-at s at 1 (at + 1) (omega arith) (omega arith), byte-at s at 2 (at + 2) (omega arith) (omega arith), byte-at s at 3 (at + 3) (omega arith) (omega arith), byte-at s at 4 (at + 4) (omega arith) (omega arith), byte-at s at 5 (at + 5) (omega arith) (omega arith), byte-at s at 6 (at + 6) (omega arith) (omega arith), byte-at s at 7 (at + 7) (omega arith) (omega arith))

-- a word cut out says what it said where it stood
pub word-cut : (s : List ℕ) (at : ℕ) → word_in (take 8 (drop at s)) 0 ≡ word_in s at
unfolding word_in
word-cut s at =
    let x = take 8 (drop at s) in
    let alone : from_le_bytes w64 x ≡ num 8 x 0 = low-first x ∙ omega (arith, num-eight x 0) in
    ap signed64 (sym alone ∙ eight-bytes s at)

-- so many bytes spell a number below 2 ^ 64
pub eight-below : (s : List ℕ) (at : ℕ) → ((k : ℕ) → get_or s k 0 < 256) → num 8 s at < 18446744073709551616
eight-below s at h =
    omega (arith, num-eight s at, h at, h (at + 1), h (at + 2), h (at + 3), h (at + 4), h (at + 5), h (at + 6), h (at + 7))
