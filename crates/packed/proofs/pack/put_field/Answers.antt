-- `put_field` meets its contract: seven pairs of digits are filled, then the last byte.
use Rattle.std.proofs.Common.{◌≡◌, sym, ap, ◌∙◌, List, ◌++◌, ℕ, ◌+◌, ◌*◌, ◌/◌, ◌%◌, arith, rules, length, take, drop, set, ℤ, nat_abs, w64, to_z, of_z}
use lib.Seq.{length-take-le}
use Rattle.integer.specs.Below.{tabulate}
use Rattle.integer.proofs.laws.BelowLaws.{length-tabulate, get_d_tabulate, tabulate-of}
use Rattle.integer.specs.Words.{filled}
use Rattle.integer.proofs.laws.WordsLaws.{filled-suc, filled-all}
use Rattle.packed.specs.Packed.{sign_of, field_byte}
use Rattle.packed.specs.Pairs.{pair_at}
use Rattle.packed.proofs.laws.PairLaws.{pair-byte, last_byte}
use Rattle.packed.proofs.pack.put_field.Goals as goal

-- seven pairs, then the last byte
field-filled : (z : ℤ) (m b : ℕ) (xs ys : List ℕ) → length xs ≡ 8 → m ≡ nat_abs z → ys ≡ tabulate (length (take 7 xs)) (pair_at (m / 10) (length (take 7 xs)))
    → b ≡ 16 * (m % 10) + sign_of z → set (ys ++ drop 7 xs) 7 b ≡ tabulate (length xs) (field_byte z)
field-filled z m b xs ys l e f h =
    let n = length-take-le 7 xs (omega arith) in
    let g : ℕ → ℕ = pair_at (nat_abs z / 10) 7 in
    let p : ys ≡ tabulate 7 (field_byte z) =
    f
    ∙ ap (λ (k : ℕ). tabulate k (pair_at (m / 10) k)) n
    ∙ ap (λ (x : ℕ). tabulate 7 (pair_at (x / 10) 7)) e
    ∙ tabulate-of 0 (tabulate 7 g) 7 (field_byte z) (length-tabulate 7 g) (λ k b. get_d_tabulate 7 g k 0 b ∙ sym (pair-byte z k b)) in
    let v : b ≡ field_byte z 7 = h ∙ ap (λ (x : ℕ). 16 * (x % 10) + sign_of z) e ∙ sym (last_byte z) in
    rw (p, v) (sym (filled-suc 7 (field_byte z) xs (omega arith)) ∙ ap (λ (k : ℕ). filled k (field_byte z) xs) (sym l) ∙ filled-all (field_byte z) xs)

pub returns : goal.returns
returns c =
    let z = c.args.z in
    let m = c.unsigned_abs-m in
    let b = c.last_byte in
    let x : to_z w64 (of_z w64 z) ≡ z = search rules in
    field-filled z m.result b.result c.args.field.now _ c.requires.1 (m.ensures.value ∙ ap nat_abs x) c.put_pairs.ensures
    (b.ensures ∙ ap (λ (v : ℤ). 16 * (m.result % 10) + sign_of v) x)
