-- `grow_balances` meets its contract: each turn writes one balance more, and no later one.
use Rattle.std.proofs.Common.{◌∙◌, arith, rules, SFits, w64}
use Rattle.std.proofs.lemmas.Int.{to_z-of_z}
use Rattle.integer.specs.Words.{word}
use Rattle.rulebook.specs.Layout.{balance_word}
use Rattle.closing.proofs.laws.WrittenLaws.{grown-none, grown-next, grown-step}
use Rattle.closing.proofs.ledger.grow_balances.Goals as goal

pub loop-a-init : goal.loop-a-init
loop-a-init c = grown-none _ _

pub grow-requires : goal.grow-requires
grow-requires c =
    let l = c.loop-a in
    let k = c.loop-a-test.true in
    let x = word c.args.amounts.now in
    let f : SFits w64 (x l.a) = search rules in
    (omega (arith, c.requires.0.book, c.balance_word.ensures), rw (to_z-of_z w64 _ f, c.balance_word.ensures, l.invariant, grown-next c.args.book.now x l.a (balance_word l.a) (omega arith)) (c.requires.0.each l.a k))

pub loop-a-preserved : goal.loop-a-preserved
loop-a-preserved c =
    let l = c.loop-a in
    let x = word c.args.amounts.now in
    let f : SFits w64 (x l.a) = search rules in
    c.grow.ensures ∙ rw c.balance_word.ensures (grown-step c.args.book.now x l.a l.invariant (to_z-of_z w64 _ f))
