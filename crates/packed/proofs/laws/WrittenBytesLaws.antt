-- Each byte of a statement's fields, in the paper's figures. Rests on StatementLaws. Assumes nothing.
use Rattle.std.specs.Prelude.{◌≡◌, refl, cond, List, ℕ, suc, ◌+◌, ◌*◌, ◌-◌, ◌/◌, ◌%◌, ◌^◌, ◌<◌, ℤ, pos, negsuc, nat_abs}
use Rattle.std.proofs.Common.{ap, ◌∙◌, arith, lt-ltb}
use Rattle.std.proofs.lemmas.Bool.{lt-leb}
use Rattle.std.specs.Int.Signed.{lt_z}
use Rattle.integer.specs.Words.{word}
use Rattle.packed.specs.Packed.{sign_of, field_byte, half_byte, digit_of}
use Rattle.packed.specs.PackedTable.{WrittenBytes}
use Rattle.packed.proofs.laws.PairLaws.{last_byte}
use Rattle.packed.proofs.laws.StatementLaws.{fields_at}

pair_of : (z : ℤ) (j : ℕ) → j < 7 → field_byte z j ≡ 16 * (nat_abs z / 10 ^ (14 - 2 * j) % 10) + nat_abs z / 10 ^ (13 - 2 * j) % 10
unfolding field_byte half_byte digit_of
pair_of z j l = let e : 14 - (2 * j + 1) ≡ 13 - 2 * j = omega arith in rw (lt-ltb (2 * j) 15 (omega arith), lt-ltb (2 * j + 1) 15 (omega arith), e)

sign-of : (z : ℤ) → sign_of z ≡ cond (lt_z z (pos 0)) 13 12
sign-of (pos n) = rw (lt-leb (suc n) 0 (omega arith))
sign-of (negsuc n) = refl

pub written-bytes : (amounts : List ℤ) → WrittenBytes amounts
written-bytes amounts = record {
  pair = λ i j l b. fields_at amounts i j l (omega arith) ∙ pair_of (word amounts i) j b;
  last = λ i l. fields_at amounts i 7 l (omega arith) ∙ last_byte (word amounts i) ∙ ap (λ x. 16 * (nat_abs (word amounts i) % 10) + x) (sign-of (word amounts i));
}
