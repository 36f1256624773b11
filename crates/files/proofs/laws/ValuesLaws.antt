-- Laws of a row's values: four bytes as the processor reads them, and judging the part of the file that they stand in is judging the file. Assumes nothing.
use Rattle.std.specs.Prelude.{◌≡◌, true, false, List, ◌++◌, ℕ, zero, suc, ◌+◌, ◌*◌, ◌-◌, ◌≤◌, ◌<◌, min, length, get_or, take, drop, Ok}
use Rattle.std.proofs.Common.{refl, sym, ap, ◌∙◌, arith, get_or-take, get_or-drop, drop-drop}
use Rattle.std.proofs.Math.Logic.{⊎_elim}
use Rattle.std.proofs.Math.Nat.{add_assoc}
use Rattle.std.proofs.Math.Seq.{drop-append_seam}
use Rattle.std.proofs.lemmas.List.{get_or_append_left}
use borrow.Author.Tests.{lt-ltb, le-ltb, lt-leb, le-leb}
use mir.Syntax.{w32}
use mir.Val.{to_z}
use Rattle.integer.specs.Integer.{twos_complement}
use Rattle.integer.proofs.laws.BelowLaws.{lt_or_le}
use Rattle.integer.proofs.laws.WordsLaws.{length-of_part}
use Rattle.rulebook.specs.declared.Section.{Section}
use Rattle.rulebook.specs.declared.Why.TheVariants.{NotWhole, OutOfRange}
use Rattle.rulebook.specs.Units.{in_range}
use Rattle.rulebook.specs.Sections.{kind_of}
use Rattle.rulebook.specs.File.{signed32, value_at}
use Rattle.rulebook.specs.Judging.{up_to, value, refused}
use Rattle.rulebook.proofs.laws.FileLaws.{num-four}
use Rattle.rulebook.proofs.laws.JudgingLaws.{up_each, value-says}
use Rattle.rulebook.proofs.laws.VerdictLaws.{up_cong}
use Rattle.files.specs.Values.{value_in}

-- ---- Bytes

-- a word of 32 bits, read as signed
pub signed-word : (n : ℕ) → n < 4294967296 → to_z w32 n ≡ signed32 n
unfolding twos_complement
signed-word n h =
    ⊎_elim (λ l. rw (lt-ltb n 2147483648 l))
    (λ l. rw (le-ltb n 2147483648 l, lt-ltb n 4294967296 h))
    (lt_or_le n 2147483648)

-- the four bytes at a, apart from what follows them
module _ (s x r : List ℕ) (a : ℕ) (e : drop a s ≡ x ++ r) (four : length x ≡ 4) where
  chunk-byte : (k j : ℕ) → k < 4 → a + k ≡ j → get_or x k 0 ≡ get_or s j 0
  chunk-byte k j l t = sym (get_or_append_left x r 0 k (omega arith)) ∙ ap (λ (y : List ℕ). get_or y k 0) (sym e) ∙ get_or-drop a s k 0 ∙ ap (λ (i : ℕ). get_or s i 0) t

  pub chunk-value : value_at x 0 ≡ value_at s a
  unfolding value_at
  chunk-value =
      rw (num-four x 0, num-four s a)
      (ap signed32 (omega (arith, chunk-byte 0 a (omega arith) (omega arith), chunk-byte 1 (a + 1) (omega arith) refl, chunk-byte 2 (a + 2) (omega arith) refl, chunk-byte 3 (a + 3) (omega arith) refl)))

  pub chunk-rest : r ≡ drop (a + 4) s
  chunk-rest = sym (sym (drop-drop 4 a s) ∙ ap (drop 4) e ∙ (rw four at (drop-append_seam x r)))

-- ---- value_in

module _ (sec : Section) (part : List ℕ) (from k : ℕ) where
  pub value-cut : length part < 4 * k + 4 → value_in sec part from k ≡ refused NotWhole (from + 4 * k)
  unfolding value_in
  value-cut h = rw (lt-leb (4 * k + 4) (length part) h)

  module _ (whole : 4 * k + 4 ≤ length part) where
    pub value-off : in_range (kind_of sec k) (value_at part (4 * k)) ≡ false → value_in sec part from k ≡ refused OutOfRange (from + 4 * k)
    unfolding value_in
    value-off t = rw (le-leb (4 * k + 4) (length part) whole, t)

    pub value-fine : in_range (kind_of sec k) (value_at part (4 * k)) ≡ true → value_in sec part from k ≡ Ok tt
    unfolding value_in
    value-fine t = rw (le-leb (4 * k + 4) (length part) whole, t)

-- ---- The n values from a on, judged in the file's part from a to e

module _ (sec : Section) (s : List ℕ) (a e n : ℕ) (inside : a ≤ length s) (cut : e ≡ min (a + 4 * n) (length s)) where
  part_length : length (take (e - a) (drop a s)) ≡ e - a
  part_length = length-of_part a e s (omega arith) (omega arith)

  part-byte : (k : ℕ) → k < e - a → get_or (take (e - a) (drop a s)) k 0 ≡ get_or s (a + k) 0
  part-byte k l = get_or-take (e - a) (drop a s) k 0 l ∙ get_or-drop a s k 0

  part-value : (k : ℕ) → k + 4 ≤ e - a → value_at (take (e - a) (drop a s)) k ≡ value_at s (a + k)
  unfolding value_at
  part-value k l = rw (
    num-four (take (e - a) (drop a s)) k,
    num-four s (a + k),
    part-byte k (omega arith),
    part-byte (k + 1) (omega arith),
    part-byte (k + 2) (omega arith),
    part-byte (k + 3) (omega arith),
    ← add_assoc a k 1,
    ← add_assoc a k 2,
    ← add_assoc a k 3,
  )

  pub values-part : up_to n (value_in sec (take (e - a) (drop a s)) a) ≡ up_to n (value sec s a)
  unfolding value_in value
  values-part =
      up_cong n _ _
      (λ k l.
      ⊎_elim
      (λ h. rw (part_length, lt-leb (4 * k + 4) (e - a) (omega arith), lt-leb (a + 4 * k + 4) (length s) h))
      (λ h. rw (part_length, le-leb (4 * k + 4) (e - a) (omega arith), le-leb (a + 4 * k + 4) (length s) h, part-value (4 * k) (omega arith)))
      (lt_or_le (length s) (a + 4 * k + 4)))

-- accepted values stand within the file
pub values-end : (sec : Section) (s : List ℕ) (from n : ℕ) → from ≤ length s → up_to n (value sec s from) ≡ Ok tt → from + 4 * n ≤ length s
values-end sec s from zero h e = omega arith
values-end sec s from (suc n) h e = omega (arith, (value-says sec s from n (up_each (suc n) (value sec s from) e n (omega arith))).whole)
