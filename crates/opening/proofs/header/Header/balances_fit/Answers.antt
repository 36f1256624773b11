-- `balances_fit` meets its contract: the balances lie in parts of eight words.
use Rattle.std.proofs.Common.{◌≡◌, ◌&&◌, ◌/◌, ◌*◌, ◌-◌, ◌≤◌, List, ℤ, ℕ, length, take, leb, drop, ap, ◌∙◌, arith, rules, tests}
use Rattle.std.specs.Prelude.{nat_abs}
use Rattle.std.specs.Simd.{first_chunks}
use Rattle.std.proofs.lemmas.Iterator.{YieldsList-from_slice}
use Rattle.std.proofs.lemmas.Iterator.Search.{all_from_yields_List}
use Rattle.integer.specs.Words.{word, part}
use Rattle.integer.proofs.laws.WordsLaws.{length_part}
use Rattle.rulebook.specs.Layout.{header_words, balance_words, balance_word}
use Rattle.rulebook.specs.WellFormed.{day_bound}
use Rattle.opening.specs.Blank.{blank}
use Rattle.opening.proofs.laws.ChunkLaws.{all_chunks}
use Rattle.opening.proofs.laws.HeaderLaws.{all-balances}
use Rattle.opening.proofs.header.Header.balances_fit.Goals as goal

-- the parts of eight words
parts : (w : List ℤ) (n end : ℕ) → end ≡ balance_word n → balance_word n ≤ length w
    → first_chunks balance_words (length (take (end - header_words) (drop header_words w)) / balance_words) (take (end - header_words) (drop header_words w)) ≡ first_chunks balance_words n (part w header_words (balance_words * n))
parts w n end e l =
    let m : end - header_words ≡ balance_words * n = omega arith in
    let long = length_part w header_words (balance_words * n) (omega arith) in
    let k : length (part w header_words (balance_words * n)) / balance_words ≡ n = omega arith in
    ap (λ (x : ℕ). first_chunks balance_words (length (take x (drop header_words w)) / balance_words) (take x (drop header_words w))) m
    ∙ ap (λ (x : ℕ). first_chunks balance_words x (part w header_words (balance_words * n))) k

pub returns : goal.returns
returns c =
    let w = c.args.book.now in
    let h = c.args.self.now in
    let n = h.terms.accounts in
    let k = h.next - h.terms.first in
    let e : c.balance_word-end.result ≡ balance_word n = rw (c.balance_word-end.ensures, c.get.ensures.same) in
    all_from_yields_List (λ x. leb (nat_abs (word x 0)) (k * day_bound) && blank (drop 1 x)) _ _ _ c.all.ensures.ran
    (YieldsList-from_slice (first_chunks balance_words n (part w header_words (balance_words * n))) (c.iter.ensures.rest ∙ c.as_chunks.ensures.front ∙ parts w n c.balance_word-end.result e c.requires))
    (λ x b q k. search (rules, tests))
    ∙ all_chunks (λ x. leb (nat_abs (word x 0)) (k * day_bound) && blank (drop 1 x)) balance_words n (part w header_words (balance_words * n))
    ∙ all-balances w k n c.requires
