-- `put_fields` meets its contract: each turn writes one field of the grid.
use Rattle.std.proofs.Common.{◌≡◌, ◌∙◌, List, ◌++◌, ℕ, ◌+◌, ◌*◌, ◌-◌, length, take, drop, ℤ, rules, arith}
use Rattle.integer.specs.Below.{tabulate}
use Rattle.integer.specs.Words.{word, grid_row, grid}
use Rattle.integer.proofs.laws.WordsLaws.{length-of_part, grid-zero, grid-suc}
use Rattle.integer.proofs.Bits.{got}
use Rattle.packed.specs.Packed.{field_bytes, field_byte}
use Rattle.packed.proofs.laws.StatementLaws.{statement-is}
use Rattle.packed.proofs.pack.put_fields.Goals as goal

-- one field more
one_more : (amounts : List ℤ) (i : ℕ) (v : ℤ) (xs ys part : List ℕ) → v ≡ word amounts i → ys ≡ grid 0 field_bytes field_bytes (λ k. field_byte (word amounts k)) i xs
    → part ≡ tabulate (length (take (8 * i + 8 - 8 * i) (drop (8 * i) ys))) (field_byte v)
    → take (8 * i) ys ++ (part ++ drop (8 * i + 8 - 8 * i) (drop (8 * i) ys)) ≡ grid 0 field_bytes field_bytes (λ k. field_byte (word amounts k)) (i + 1) xs
unfolding grid_row
one_more amounts i v xs ys part z e f =
    let a : 0 + i * field_bytes ≡ 8 * i = omega arith in
    rw (grid-suc, ← e, a, f, z)

pub loop-i-init : goal.loop-i-init
loop-i-init c = grid-zero _ _ _ _ _

pub put_field-requires : goal.put_field-requires
put_field-requires c =
    let xs = c.args.amounts.now in
    let z = got (word xs c.loop-i.i) (search rules) in
    (rw z ((statement-is xs c.requires.0).digits c.loop-i.i (omega arith)), length-of_part (8 * c.loop-i.i) (8 * c.loop-i.i + 8) c.loop-i.output (omega arith) (omega arith) ∙ omega arith)

pub loop-i-preserved : goal.loop-i-preserved
loop-i-preserved c =
    let xs = c.args.amounts.now in
    let z = got (word xs c.loop-i.i) (search rules) in
    one_more xs c.loop-i.i _ _ _ _ z c.loop-i.invariant c.put_field.ensures
