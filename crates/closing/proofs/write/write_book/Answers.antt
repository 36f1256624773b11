-- `write_book` meets its contract: all sums fit, and step by step the words are the rule book's.
use Rattle.std.proofs.Common.{◌≡◌, List, ℕ, ◌+◌, ◌≤◌, ℤ, pos, ◌+ℤ◌, length, set, take, ap, ◌∙◌, arith, rules, SFits, w64, to_z, of_z}
use Rattle.std.proofs.lemmas.Int.{to_z-of_z}
use Rattle.integer.proofs.Bits.{got}
use Rattle.integer.specs.Words.{word}
use Rattle.rulebook.specs.declared.Terms.{Terms}
use Rattle.rulebook.specs.Units.{last_day}
use Rattle.rulebook.specs.Layout.{mssl_word}
use Rattle.rulebook.specs.Close.{balances_grown_by, day_difference}
use Rattle.closing.specs.Written.{BalancesRoom}
use Rattle.closing.proofs.laws.SettlingLaws.{balances-room, credit-room, credited, rounding-room, book-same}
use Rattle.closing.proofs.laws.WrittenLaws.{long-lent, room-lent, grown-lent}
use Rattle.closing.proofs.write.write_book.Goals as goal
use Rattle.closing.proofs.write.write_book.Goals.{Start, After-grow_balances, After-grow}

-- the balances have room
room : (c : Start) → BalancesRoom c.args.formed.now.terms.accounts c.args.book.now c.args.statement.now
room c = balances-room c.args.book.now c.args.formed.now.terms c.args.formed.now.next c.requires.settling c.args.statement.now c.requires.statement

pub grow_balances-requires : goal.grow_balances-requires
grow_balances-requires c =
    let n = c.args.formed.now.terms.accounts in
    let st = c.args.statement.now in
    let b = room (goal.at.grow_balances-requires c).Start in
    rw c.get-n.ensures.same (room-lent n st b.statement c.args.book.now b, omega (arith, long-lent n st b.statement, c.requires.settling.book.in_terms.accounts_to))

-- the balances grown, by the amounts of the statement
grown : (c : After-grow_balances) → BalancesRoom c.args.formed.now.terms.accounts c.args.book.now c.args.statement.now
    → c.grow_balances.new.book ≡ balances_grown_by c.args.book.now (word c.args.statement.now) c.args.formed.now.terms.accounts
grown c b =
    let st = c.args.statement.now in
    let w = c.args.book.now in
    c.grow_balances.ensures
    ∙ ap (λ (o : Terms). balances_grown_by w (word (take o.accounts st)) (length (take o.accounts st))) c.get-n.ensures.same
    ∙ grown-lent c.args.formed.now.terms.accounts st b.statement w

-- a sum in the header, grown
credited-same : {v u : List ℤ} {x y : ℤ} → v ≡ u → x ≡ y → set v mssl_word (word v mssl_word +ℤ x) ≡ set u mssl_word (word u mssl_word +ℤ y)
credited-same e f = cc

pub grow-requires : goal.grow-requires
grow-requires c =
    let a = c.args in
    let f = a.formed.now in
    let g = goal.at.grow-requires c in
    let b = room g.Start in
    let k : SFits w64 (word a.statement.now c.get-n.result.accounts) = search rules in (
      omega (arith, c.grow_balances.auto.book, b.book),
      rw (to_z-of_z w64 _ k, grown g.After-grow_balances b, c.get-n.ensures.same) (credit-room a.book.now f.terms f.next c.requires.settling a.statement.now c.requires.statement),
    )

-- the MSSL's balance grown
credited-is : (c : After-grow) → c.grow_balances.new.book ≡ balances_grown_by c.args.book.now (word c.args.statement.now) c.args.formed.now.terms.accounts
    → c.grow.new.book ≡ credited c.args.book.now c.args.formed.now.terms c.args.formed.now.next c.requires.settling c.args.statement.now c.requires.statement
credited-is c e =
    let st = c.args.statement.now in
    let k : SFits w64 (word st c.get-n.result.accounts) = search rules in
    c.grow.ensures ∙ credited-same e (to_z-of_z w64 _ k ∙ ap (λ (o : Terms). word st o.accounts) c.get-n.ensures.same)

-- the rounding difference, read back
difference-is : (c : Start) → to_z w64 (of_z w64 c.args.difference) ≡ day_difference c.args.formed.now.terms c.args.book.now c.args.formed.now.next
difference-is c = to_z-of_z w64 _ c.ranges.difference ∙ c.requires.difference

pub grow-requires-2 : goal.grow-requires-2
grow-requires-2 c =
    let a = c.args in
    let f = a.formed.now in
    let g = goal.at.grow-requires-2 c in
    let b = room g.Start in (
      omega (arith, c.grow_balances.auto.book, c.grow.auto.book, b.book),
      rw (difference-is g.Start, credited-is g.After-grow (grown g.After-grow_balances b)) (rounding-room a.book.now f.terms f.next c.requires.settling a.statement.now c.requires.statement),
    )

-- the next day, written
raised : (D : ℕ) → D ≤ last_day → to_z w64 (of_z w64 (to_z w64 D +ℤ pos 1)) ≡ pos (D + 1)
raised D h = ap (λ (z : ℤ). to_z w64 (of_z w64 (z +ℤ pos 1))) (got (pos D) (omega arith)) ∙ got (pos (D + 1)) (omega arith)

pub returns : goal.returns
returns c =
    let a = c.args in
    let f = a.formed.now in
    let s = c.requires.settling in
    let g = goal.at.returns c in
    rw (
      c.blank_settled.ensures,
      raised f.next s.left,
      c.grow-2.ensures,
      difference-is g.Start,
      credited-is g.After-grow (grown g.After-grow_balances (room g.Start)),
    ) (book-same a.book.now f.terms f.next s a.statement.now c.requires.statement)
