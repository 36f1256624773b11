-- `value_at` meets its contract: four bytes spell a number below 2 ^ 32.
use Rattle.std.proofs.Common.{◌≡◌, ◌+◌, ◌<◌, ap, ◌∙◌, arith, to_z}
use Rattle.std.proofs.lemmas.Int.{to_z-of_z}
use mir.Syntax.{w32}
use Rattle.integer.proofs.Bits.{got}
use Rattle.rulebook.specs.File.{num, signed32, value_at}
use Rattle.rulebook.proofs.laws.FileLaws.{num-four}
use Rattle.files.proofs.laws.ValuesLaws.{signed-word}
use Rattle.files.proofs.fields.value_at.Goals as goal

pub returns : goal.returns
unfolding value_at
returns c =
    let g = c.args in
    let f = num-four g.s.now g.at in
    let n : num 4 g.s.now g.at < 4294967296 = omega (arith, c.type_inv.s g.at, c.type_inv.s (g.at + 1), c.type_inv.s (g.at + 2), c.type_inv.s (g.at + 3)) in
    let e : c.from_le_bytes.result ≡ signed32 (num 4 g.s.now g.at) = c.from_le_bytes.ensures ∙ ap (to_z w32) (omega arith) ∙ signed-word (num 4 g.s.now g.at) n in
    let r = to_z-of_z w32 c.from_le_bytes.result (record { sfits = c.from_le_bytes.type_inv }) in
    let z = got c.from.result c.from.type_inv in
    let same : c.from.result ≡ c.from_le_bytes.result = c.from.ensures ∙ r in
    (z ∙ same ∙ e, rw (z, same) c.from_le_bytes.type_inv)
