-- `Header.of` meets its contract: the header's words are the first 64.
use Rattle.std.proofs.Common.{◌≡◌, true, length, sym, ◌∙◌, le-leb, arith}
use Rattle.std.proofs.Math.Bool.{and-false}
use Rattle.integer.proofs.Bits.{got}
use Rattle.integer.specs.Words.{word}
use Rattle.rulebook.specs.Layout.{header_words}
use Rattle.rulebook.specs.BookData.{terms_of, next_day}
use Rattle.rulebook.specs.WellFormed.{terms_words_fit, header_fits}
use Rattle.opening.proofs.laws.WordLaws.{given-none, given-some}
use Rattle.opening.proofs.laws.HeaderLaws.{header-true, header-by_first, terms-first, next-first}
use Rattle.opening.proofs.header.Header.of.Goals as goal
use Rattle.opening.proofs.header.Header.of.Goals.{After-frame_fits, After-natural}

pub returns-in_err-terms-clause-fits : goal.returns-in_err-terms-clause-fits
returns-in_err-terms-clause-fits c =
    let k = c.in_ok-words.ensures.cases in
    let e = given-none (terms_of c.in_ok-words.words.now) (terms_words_fit c.in_ok-words.words.now) c.in_err-terms.ensures in
    rw (c.from_residual-in_err-terms.ensures, header-by_first c.args.book.now k.enough, ← k.same, e) (sym (and-false _))

pub returns-then-not-frame_fits-clause-fits : goal.returns-then-not-frame_fits-clause-fits
returns-then-not-frame_fits-clause-fits c =
    let k = c.in_ok-words.ensures.cases in
    let e = sym c.frame_fits.ensures ∙ c.if-not-frame_fits.true in
    rw (header-by_first c.args.book.now k.enough, ← k.same, e, and-false, and-false)

-- the header fits
fitted : (c : After-natural) → header_fits c.args.book.now ≡ true
fitted c =
    let k = c.in_ok-words.ensures.cases in
    let e = given-some (terms_of c.in_ok-words.words.now) (terms_words_fit c.in_ok-words.words.now) c.in_ok-terms.ensures in
    rw (header-by_first c.args.book.now k.enough, ← k.same, e.0, sym c.frame_fits.ensures ∙ c.if-not-frame_fits.false)

-- what the value has
next-is : (c : After-natural) → c.natural.result ≡ next_day c.args.book.now
next-is c =
    let k = c.in_ok-words.ensures.cases in
    rw (c.natural.ensures, got (word c.in_ok-words.words.now 5) (omega arith), k.same) (next-first c.args.book.now k.enough)

terms-are : (c : After-natural) → c.in_ok-terms.terms ≡ terms_of c.args.book.now
terms-are c =
    let k = c.in_ok-words.ensures.cases in
    let e = given-some (terms_of c.in_ok-words.words.now) (terms_words_fit c.in_ok-words.words.now) c.in_ok-terms.ensures in
    rw (e.1, k.same) (terms-first c.args.book.now k.enough)

pub invariant_of-result : goal.invariant_of-result
invariant_of-result c =
    let d = (goal.at.invariant_of-result c).After-natural in
    let h = header-true c.args.book.now (fitted d) in
    record { begun = rw (terms-are d, next-is d) h.begun; ended = rw (next-is d) h.ended }

pub returns-clause-fits : goal.returns-clause-fits
returns-clause-fits c =
    let k = c.in_ok-words.ensures.cases in
    rw (fitted (goal.at.returns-clause-fits c).After-natural, le-leb header_words (length c.args.book.now) k.enough)

pub returns-clause-told : goal.returns-clause-told
returns-clause-told c =
    let d = (goal.at.returns-clause-told c).After-natural in
    (terms-are d, next-is d)
