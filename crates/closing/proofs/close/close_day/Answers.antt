-- `close_day` meets its contract: each number's test is that of the rule book, in its order.
use Rattle.std.proofs.Common.{sym}
use Rattle.book.specs.Judged.{Formed}
use Rattle.book.proofs.laws.JudgedLaws.{book-formed}
use Rattle.closing.proofs.laws.CloseLaws.{finished, no_room, missing}
use Rattle.closing.proofs.close.close_day.Goals as goal
use Rattle.closing.proofs.close.close_day.Goals.{Start}

-- what the judge said of the book
formed : (c : Start) → Formed c.args.book.now c.args.formed.now.terms c.args.formed.now.next
formed c = book-formed c.args.book.now c.args.formed.now.terms c.args.formed.now.next c.requires

pub returns-then-formed-gt-LAST_DAY : goal.returns-then-formed-gt-LAST_DAY
returns-then-formed-gt-LAST_DAY c =
    let f = c.args.formed.now in
    finished c.args.book.now c.args.statement.now f.terms f.next (formed (goal.at.returns-then-formed-gt-LAST_DAY c).Start) c.if-formed-gt-LAST_DAY.true

pub returns-then-statement-get : goal.returns-then-statement-get
returns-then-statement-get c =
    let f = c.args.formed.now in
    no_room c.args.book.now c.args.statement.now f.terms f.next (formed (goal.at.returns-then-statement-get c).Start) c.if-formed-gt-LAST_DAY.false
    (rw c.get.ensures.same at c.if-statement-get.true)

pub first_missing-requires : goal.first_missing-requires
first_missing-requires c = formed (goal.at.first_missing-requires c).Start

pub settle-requires : goal.settle-requires
settle-requires c =
    (record { book = formed (goal.at.settle-requires c).Start; left = c.if-formed-gt-LAST_DAY.false; none = sym c.in-None.ensures }, rw c.get.ensures.same at c.if-statement-get.false)

pub returns-in-Some : goal.returns-in-Some
returns-in-Some c =
    let f = c.args.formed.now in
    missing c.args.book.now c.args.statement.now f.terms f.next (formed (goal.at.returns-in-Some c).Start) c.if-formed-gt-LAST_DAY.false
    (rw c.get.ensures.same at c.if-statement-get.false) c.in-Some.flag (sym c.in-Some.ensures)
