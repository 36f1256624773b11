-- `intervals_fit` meets its contract: each interval is tested.
use Rattle.std.proofs.Common.{◌<◌, ◌/◌, length, ◌∙◌, arith, rules, tests}
use Rattle.std.proofs.lemmas.Iterator.Search.{all_from_yields_List}
use Rattle.rulebook.specs.Units.{intervals}
use Rattle.rulebook.specs.Layout.{interval_length}
use Rattle.opening.proofs.laws.ChunkLaws.{chunks-given, chunks-of, all_chunks}
use Rattle.book.specs.Day.{is_closed}
use Rattle.book.specs.Parts.{interval_told}
use Rattle.book.proofs.laws.SlotLaws.{intervals-lent}
use Rattle.book.proofs.slots.intervals_fit.Goals as goal

pub returns : goal.returns
returns c =
    let xs = c.args.slot.now in
    let n = c.args.n in
    let size = interval_length n in
    let closed = is_closed c.args.day in
    let some : 0 < size = omega arith in
    let k = chunks-of intervals size some c.requires.0 in
    all_from_yields_List (interval_told closed) _ _ _ c.all.ensures.ran (chunks-given size xs some c.chunks_exact.ensures.rest (c.chunks_exact.ensures.size ∙ c.interval_length.ensures)) (λ x b q k. search (rules, tests))
    ∙ all_chunks (interval_told closed) size (length xs / size) xs ∙ intervals-lent n closed xs c.requires.0 k
