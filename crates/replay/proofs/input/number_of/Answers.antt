-- `number_of` meets its contract: the library's reading of four bytes is `num 4`.
use Rattle.std.proofs.Common.{◌∙◌, arith}
use Rattle.rulebook.proofs.laws.FileLaws.{num-four}
use Rattle.replay.proofs.input.number_of.Goals as goal

pub returns : goal.returns
returns c = c.from_le_bytes.ensures ∙ omega (arith, num-four c.args.bytes.now 0)
