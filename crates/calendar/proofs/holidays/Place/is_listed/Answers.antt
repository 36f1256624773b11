-- `Place::is_listed` meets its contract: the index that parts the list is where the day stands, if it is listed.
use Rattle.std.proofs.Common.{rules, pos, sym, ap, ◌∙◌, eqb, length, ltb-true, ltb-false}
use Rattle.std.proofs.lemmas.List.{get_or_read}
use Rattle.integer.proofs.Bits.{got}
use Rattle.integer.specs.Integer.{positive}
use Rattle.calendar.proofs.laws.HolidayLaws.{listed-is, none_listed}
use Rattle.calendar.proofs.holidays.Place.is_listed.Goals as goal

pub returns-in-Some : goal.returns-in-Some
returns-in-Some c =
    let s = c.args.self.now in
    let xs = s.holidays.days.now in
    let l = ltb-true s.next (length xs) (sym c.in-Some.ensures.lookup.0) in
    let e = get_or_read xs _ _ l c.in-Some.ensures.lookup.1 (pos 0) in
    ap (λ n. eqb n s.day) (c.natural.ensures ∙ ap positive (got c.in-Some.entry.now (search rules) ∙ e)) ∙ listed-is xs s.holidays.proper s.day s.next s.first l

pub returns-in-None : goal.returns-in-None
returns-in-None c =
    let s = c.args.self.now in
    sym (none_listed s.holidays.days.now s.holidays.proper s.day s.next s.first (ltb-false s.next (length s.holidays.days.now) (sym c.in-None.ensures.lookup.0)))
