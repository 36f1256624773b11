-- `settled_of` meets its contract: r's slot is in range.
use Rattle.std.proofs.Common.{ℕ, sym, ◌∙◌, subst}
use Rattle.amounts.specs.Day.{SlotRanged}
use Rattle.closing.specs.Slots.{slot_words}
use Rattle.closing.proofs.laws.SlotsLaws.{settles}
use Rattle.closing.proofs.laws.SettlingLaws.{settled_ranged}
use Rattle.closing.proofs.write.settled_of.Goals as goal

pub slot_of-then-requires : goal.slot_of-then-requires
slot_of-then-requires c =
    let f = c.args.formed.now in
    let w = c.args.book.now in
    let s = settles f.terms f.next (sym c.settled_day.ensures.day ∙ c.in_ok-settled.was) in
    (c.requires.book.room, s.late, subst (λ (d : ℕ). SlotRanged f.terms.accounts (slot_words f.terms w d)) s.day (settled_ranged w f.terms f.next c.requires s.due))
