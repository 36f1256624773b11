-- `word_of` meets its contract: the library's reading of eight bytes is `num 8`, read in two's complement.
use Rattle.std.proofs.Common.{ap, ◌∙◌, arith, to_z}
use Rattle.std.specs.Int.{w64}
use Rattle.integer.proofs.Bits.{got}
use Rattle.rulebook.specs.File.{num}
use Rattle.replay.specs.Fields.{word_in}
use Rattle.replay.proofs.laws.FieldLaws.{num-eight, eight-below, signed-word}
use Rattle.replay.proofs.input.word_of.Goals as goal

pub returns : goal.returns
unfolding word_in
returns c =
    let b = c.args.bytes.now in
    let f = num-eight b 0 in
    got c.from_le_bytes.result c.from_le_bytes.type_inv
    ∙ c.from_le_bytes.ensures
    ∙ ap (to_z w64) (omega (arith, f))
    ∙ signed-word (num 8 b 0) (eight-below b 0 c.fits-bytes)
