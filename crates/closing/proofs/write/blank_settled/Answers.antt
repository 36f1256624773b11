-- `blank_settled` meets its contract: r's slot lies within the size, and the part that is filled with zeros is that slot.
use Rattle.std.proofs.Common.{◌+◌, ◌≤◌, sym, ap, ◌∙◌, arith, rules}
use Rattle.rulebook.specs.declared.Terms.{Terms}
use Rattle.rulebook.specs.Layout.{size, slot_length, slot_start}
use Rattle.rulebook.specs.Close.{slot_blanked}
use Rattle.closing.proofs.laws.SlotsLaws.{slot-sized, settles, settles_none}
use Rattle.closing.proofs.laws.SettlingLaws.{slot-blanked}
use Rattle.closing.proofs.write.blank_settled.Goals as goal
use Rattle.closing.proofs.write.blank_settled.Goals.{After-slot_length}

pub slot_start-a-requires : goal.slot_start-a-requires
slot_start-a-requires c = c.settled_day.ensures.late c.in-Some.settled c.in-Some.is

-- the slot lies within the book
inside : (c : After-slot_length) → c.slot_start-a.result + c.slot_length.result ≤ size c.args.formed.now.terms
inside c =
    let o = c.args.formed.now.terms in
    let k = c.get.ensures in
    omega (arith, slot-sized o c.in-Some.settled k.accepted, c.slot_start-a.ensures, c.slot_length.ensures, ap (λ (o : Terms). slot_length o.accounts) k.same)

pub overflow_add-e : goal.overflow_add-e
overflow_add-e c = omega (arith, inside (goal.at.overflow_add-e c).After-slot_length)

pub offset_bounds-book-a : goal.offset_bounds-book-a
offset_bounds-book-a c = omega (arith, inside (goal.at.offset_bounds-book-a c).After-slot_length)

pub slice_bounds-slot-end : goal.slice_bounds-slot-end
slice_bounds-slot-end c = omega (arith, inside (goal.at.slice_bounds-slot-end c).After-slot_length)

pub returns-in-Some : goal.returns-in-Some
returns-in-Some c =
    let f = c.args.formed.now in
    let k = c.get.ensures in
    let s = settles f.terms f.next (sym c.settled_day.ensures.day ∙ c.in-Some.is) in
    rw (c.fill.ensures.after (λ y h. search rules))
    (slot-blanked f.terms f.next c.args.book.now k.accepted c.requires s.due
    (c.slot_start-a.ensures ∙ ap (slot_start f.terms) (sym s.day)) (c.slot_length.ensures ∙ ap (λ (o : Terms). slot_length o.accounts) k.same))

pub returns-in_default : goal.returns-in_default
unfolding slot_blanked
returns-in_default c =
    let f = c.args.formed.now in
    rw (settles_none f.terms f.next (sym c.settled_day.ensures.day ∙ c.in_default.is))
