-- `long_of` meets its contract: the library's reading of eight bytes is `num 8`.
use Rattle.std.proofs.Common.{◌∙◌, arith}
use Rattle.replay.proofs.laws.FieldLaws.{num-eight}
use Rattle.replay.proofs.input.long_of.Goals as goal

pub returns : goal.returns
returns c = c.from_le_bytes.ensures ∙ omega (arith, num-eight c.args.bytes.now 0)
