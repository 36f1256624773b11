-- `clear` meets its contract: a copy of a word is the word.
use Rattle.std.proofs.Common.{pos, length, sym, ◌∙◌}
use Rattle.opening.proofs.laws.ChunkLaws.{tabulate-same}
use Rattle.opening.proofs.words.clear.Goals as goal

pub returns : goal.returns
returns c = c.fill.ensures.after (λ y e. e) ∙ sym (tabulate-same (length c.args.part.now) (pos 0))
