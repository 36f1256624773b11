-- `first_missing` meets its contract: both slots lie within the book, and the search by index is the rule book's.
use Rattle.std.proofs.Common.{◌≡◌, List, ℕ, ℤ, Option, rules, sym, ap, ◌∙◌, arith}
use Rattle.rulebook.specs.declared.Terms.{Terms}
use Rattle.closing.specs.Search.{first_absent}
use Rattle.closing.specs.Slots.{settled_start}
use Rattle.closing.proofs.laws.SlotsLaws.{slot-sized, start-sized}
use Rattle.closing.proofs.laws.SearchSameLaws.{search-same}
use Rattle.closing.proofs.close.first_missing.Goals as goal
use Rattle.closing.proofs.close.first_missing.Goals.{After-map-then}

-- where r's slot starts
start : (c : After-map-then) → c.map-then.result ≡ settled_start c.args.formed.now.terms c.args.formed.now.next
start c = search rules

pub first_absent-requires-clause-closing : goal.first_absent-requires-clause-closing
first_absent-requires-clause-closing c =
    let f = c.args.formed.now in
    rw (c.get.ensures.same, c.slot_start-today.ensures) (omega (arith, slot-sized f.terms f.next c.requires.in_terms, c.requires.room))

pub first_absent-requires-clause-settled : goal.first_absent-requires-clause-settled
first_absent-requires-clause-settled c =
    let f = c.args.formed.now in
    λ x e. rw c.get.ensures.same (omega (arith, start-sized f.terms f.next c.requires.in_terms x (sym (start (goal.at.first_absent-requires-clause-settled c).After-map-then) ∙ e), c.requires.room))

absent-cong : (w : List ℤ) {m n a b : ℕ} {i j : Option ℕ} → m ≡ n → a ≡ b → i ≡ j → first_absent w m a i ≡ first_absent w n b j
absent-cong w x y z = cc

pub returns : goal.returns
returns c =
    let f = c.args.formed.now in
    c.first_absent.ensures
    ∙ absent-cong c.args.book.now (ap (λ (o : Terms). o.accounts) c.get.ensures.same) c.slot_start-today.ensures (start (goal.at.returns c).After-map-then)
    ∙ search-same f.terms c.args.book.now f.next
