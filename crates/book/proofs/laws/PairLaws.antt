-- The pairs of a row, in the parts of two words that follow its flag. Assumes nothing.
use Rattle.std.specs.Prelude.{◌≡◌, ◌&&◌, ◌||◌, List, ℕ, ◌+◌, ◌*◌, ◌/◌, ◌<◌, ℤ, pos, length}
use Rattle.std.proofs.Common.{sym, ap, ap₂, ◌∙◌, arith}
use Rattle.std.specs.Int.Signed.{lt_z}
use Rattle.std.specs.Simd.{first_chunks}
use Rattle.integer.specs.Below.{fold}
use Rattle.integer.specs.Words.{word, part}
use Rattle.integer.proofs.laws.WordsLaws.{length_part}
use Rattle.rulebook.specs.declared.Kind.{Kind}
use Rattle.rulebook.specs.declared.Kind.TheVariants.{Quantity, Injection, Price}
use Rattle.rulebook.specs.declared.Section.TheVariants.{Vesting, Meter}
use Rattle.rulebook.specs.Units.{in_range, between}
use Rattle.rulebook.specs.WellFormed.{is_zero, row_fits, word_of_row}
use Rattle.rulebook.specs.RowPairs.{row_pairs, pairs_in_range, rest_zero, pairs_fit}
use Rattle.rulebook.proofs.laws.RowPairLaws.{vesting-is, meter-is}
use Rattle.rulebook.proofs.laws.TestLaws.{all_same}
use Rattle.opening.specs.Blank.{blank}
use Rattle.opening.proofs.laws.LoopLaws.{word-part}

-- the pairs, as they are lent
pub pairs-lent : (row : List ℤ) → length row ≡ 9 → first_chunks 2 (length (part row 1 8) / 2) (part row 1 8) ≡ first_chunks 2 row_pairs (part row 1 8)
pairs-lent row e =
    let l = length_part row 1 8 (omega arith) in
    let k : length (part row 1 8) / 2 ≡ row_pairs = omega arith in
    ap (λ (i : ℕ). first_chunks 2 i (part row 1 8)) k

-- word i of pair p
pub pair-word : (row : List ℤ) (p i : ℕ) → p < row_pairs → i < 2 → word (part (part row 1 8) (p * 2) 2) i ≡ word row (1 + (p * 2 + i))
pair-word row p i h l = word-part (part row 1 8) (p * 2) 2 i l ∙ word-part row 1 8 (p * 2 + i) (omega arith)

pub pair-first : (row : List ℤ) (p : ℕ) → p < row_pairs → word (part (part row 1 8) (p * 2) 2) 0 ≡ word row (1 + 2 * p)
pair-first row p h = pair-word row p 0 h (omega arith) ∙ ap (word row) (omega arith)

pub pair-second : (row : List ℤ) (p : ℕ) → p < row_pairs → word (part (part row 1 8) (p * 2) 2) 1 ≡ word row (2 + 2 * p)
pair-second row p h = pair-word row p 1 h (omega arith) ∙ ap (word row) (omega arith)

-- a pair is blank exactly if both its words are zero
pub blank-pair : (pair : List ℤ) → length pair ≡ 2 → blank pair ≡ (is_zero (word pair 0) && is_zero (word pair 1))
unfolding blank fold
blank-pair pair e = rw e

-- the words of a row that are lent as a part
pub pairs-same : (k l : Kind) (f g : ℕ → ℤ) → ((j : ℕ) → j < 9 → f j ≡ g j) → pairs_fit k l f ≡ pairs_fit k l g
unfolding pairs_fit pairs_in_range rest_zero
pairs-same k l f g e =
    ap₂ ◌&&◌ (ap₂ ◌&&◌ (ap (between (pos 0) (pos row_pairs)) (e 0 (omega arith)))
    (all_same row_pairs _ _ (λ p h. ap₂ ◌&&◌ (ap (in_range k) (e (1 + 2 * p) (omega arith))) (ap (in_range l) (e (2 + 2 * p) (omega arith))))))
    (all_same row_pairs _ _ (λ p h. ap₂ ◌||◌ (ap (lt_z (pos p)) (e 0 (omega arith))) (ap₂ ◌&&◌ (ap is_zero (e (1 + 2 * p) (omega arith))) (ap is_zero (e (2 + 2 * p) (omega arith))))))

-- a vesting and a meter row, as an account's words lend them
pub vesting-lent : (cell : List ℤ) → pairs_fit Quantity Price (word (part cell 0 9)) ≡ row_fits Vesting (word_of_row (word cell) Vesting)
unfolding pairs_fit pairs_in_range rest_zero fold
vesting-lent cell = pairs-same Quantity Price (word (part cell 0 9)) (λ j. word cell (0 + j)) (word-part cell 0 9) ∙ sym (vesting-is _)

pub meter-lent : (cell : List ℤ) → pairs_fit Price Injection (word (part cell 9 9)) ≡ row_fits Meter (word_of_row (word cell) Meter)
unfolding pairs_fit pairs_in_range rest_zero fold
meter-lent cell = pairs-same Price Injection (word (part cell 9 9)) (λ j. word cell (9 + j)) (word-part cell 9 9) ∙ sym (meter-is _)
