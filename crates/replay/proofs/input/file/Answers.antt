-- `file` meets its contract: the bytes read come back before those beyond.
use borrow.Author.Rules.{rules}
use Rattle.replay.proofs.laws.FrameLaws.{counts-back, beyond-back}
use Rattle.replay.proofs.input.file.Goals as goal

pub returns : goal.returns
returns c =
    let xs = c.args.space.now in
    let ys = c.read_full.new.buf in
    (counts-back _ xs ys c.at_most-n.ensures (search rules), beyond-back _ xs ys c.at_most-n.ensures (search rules))
