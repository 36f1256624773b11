-- `interval_fits` meets its contract: the interval's own words, then each account's.
use Rattle.std.proofs.Common.{◌≡◌, ◌&&◌, ◌/◌, true, false, length, sym, ap, ◌∙◌, arith, rules, tests}
use Rattle.std.specs.List.{list_all}
use Rattle.std.specs.Simd.{first_chunks}
use Rattle.std.proofs.lemmas.Iterator.{YieldsList-from_slice}
use Rattle.std.proofs.lemmas.Iterator.Search.{all_from_yields_List}
use Rattle.integer.specs.Words.{word}
use Rattle.rulebook.specs.Layout.{account_words}
use Rattle.rulebook.specs.WellFormed.{account_fits, ncc_fits}
use Rattle.book.specs.Day.{is_closed}
use Rattle.book.proofs.laws.IntervalLaws.{too_short, by_parts}
use Rattle.book.proofs.interval.interval_fits.Goals as goal

pub returns-in_default : goal.returns-in_default
returns-in_default c = sym (too_short (is_closed c.args.day) c.args.interval.now c.in_default.ensures.cases)

pub returns-then-ncc_fits : goal.returns-then-ncc_fits
returns-then-ncc_fits c =
    let s = c.in-Some.ensures.cases in
    let closed = is_closed c.args.day in
    let cells = first_chunks account_words (length c.in-Some.accounts.now / account_words) c.in-Some.accounts.now in
    let e : c.all.result ≡ list_all (λ x. account_fits closed (word x)) cells
    = all_from_yields_List (λ x. account_fits closed (word x)) _ _ _ c.all.ensures.ran (YieldsList-from_slice cells (c.iter.ensures.rest ∙ c.as_chunks.ensures.front)) (λ x b q k. search (rules, tests)) in
    let n : ncc_fits (word c.in-Some.own.now) ≡ true = sym c.ncc_fits.ensures ∙ c.if-ncc_fits.true in
    e ∙ ap (λ b. b && list_all (λ x. account_fits closed (word x)) cells) (sym n) ∙ by_parts closed c.args.interval.now (omega arith) s.0 s.1 s.2

pub returns-else-ncc_fits : goal.returns-else-ncc_fits
returns-else-ncc_fits c =
    let s = c.in-Some.ensures.cases in
    let closed = is_closed c.args.day in
    let cells = first_chunks account_words (length c.in-Some.accounts.now / account_words) c.in-Some.accounts.now in
    let n : ncc_fits (word c.in-Some.own.now) ≡ false = sym c.ncc_fits.ensures ∙ c.if-ncc_fits.false in
    c.if-ncc_fits.false ∙ ap (λ b. b && list_all (λ x. account_fits closed (word x)) cells) (sym n) ∙ by_parts closed c.args.interval.now (omega arith) s.0 s.1 s.2
