-- `put_text` meets its contract: the text is copied over as many bytes. Rests on `written_is`.
use Rattle.std.proofs.Common.{arith}
use Rattle.console.proofs.laws.WrittenLaws.{put_copied}
use Rattle.console.proofs.line.put_text.Goals as goal

pub returns : goal.returns
returns c =
    rw c.copy_from_slice.ensures.after (put_copied c.args.bytes.now c.args.at _ c.args.text.now c.requires (omega arith))
