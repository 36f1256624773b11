-- `put` meets its contract: the line's bytes are those up to the text's end. Rests on `written_is`, by `take-written`.
use Rattle.std.proofs.Common.{arith}
use Rattle.console.proofs.laws.WrittenLaws.{take-written}
use Rattle.console.proofs.line.Line.put.Goals as goal

pub returns-clause-after : goal.returns-clause-after
returns-clause-after g c =
    let p = c.put_text-end.ensures in
    rw (p.bytes, p.past, ← c.self.view_is) (take-written _ _ c.args.text.now (omega (arith, p.past, p.within)))
