-- What a header that fits says, and how large the numbers are that are computed from it. Assumes nothing.
use Rattle.std.specs.Prelude.{◌≡◌, refl, Bool, true, false, ◌&&◌, pos, length, leb, nat_abs, take, drop, List, ℕ, ◌+◌, ◌*◌, ◌≤◌, ◌<◌, T, ℤ}
use Rattle.std.proofs.Common.{sym, ap, ap₂, ◌∙◌, zero-add, length-take, subst, mul-le-mul, arith}
use Rattle.std.proofs.lemmas.List.{drop-take, drop-drop}
use Rattle.std.proofs.Math.Nat.{one-mul}
use Rattle.std.specs.Int.Signed.{le_z}
use Rattle.integer.proofs.laws.WordsLaws.{part-part}
use Rattle.integer.specs.Below.{all}
use Rattle.integer.specs.Words.{word, part}
use Rattle.rulebook.specs.declared.Terms.{Terms}
use Rattle.rulebook.specs.Units.{intervals, between}
use Rattle.rulebook.specs.Shares.{most_accounts}
use Rattle.rulebook.specs.Terms.{most_lag, most_horizon, terms_fit, InTerms}
use Rattle.rulebook.specs.Layout.{header_words, balance_words, balance_padding, book_mark, mark_word, header_padding_words, header_padding, balance_word, interval_length, base, size}
use Rattle.rulebook.specs.BookData.{terms_of, next_day}
use Rattle.rulebook.proofs.laws.TestLaws.{all_same}
use Rattle.rulebook.proofs.laws.HeaderLaws.{HeaderSays, header-says}
use Rattle.opening.specs.Blank.{blank}
use Rattle.opening.proofs.laws.LoopLaws.{word-part}
use Rattle.opening.proofs.laws.BlankLaws.{blank_part}
use Rattle.rulebook.specs.WellFormed.{day_bound, is_zero, sum_fits, balance_words_fit, balances_fit, terms_words_fit, next_day_fits, header_fits}

pub header-true : (w : List ℤ) → header_fits w ≡ true → HeaderSays (terms_of w) (next_day w) w
header-true w e = header-says w (subst T (sym e) tt)

pub header-inside : (o : Terms) → balance_word o.accounts ≤ size o
unfolding size base
header-inside o = omega arith

-- the largest book has 6,188,672 words
pub slots_small : (o : Terms) → InTerms o → intervals * (o.lag + o.horizon) * interval_length o.accounts ≤ intervals * (most_lag + most_horizon) * interval_length most_accounts
slots_small o t = mul-le-mul {n₂ = intervals * (most_lag + most_horizon)} {m₂ = interval_length most_accounts} (omega arith) (omega arith)

-- ---- A header's own words, the first 64

turned : (m t d z : Bool) → (m && t && d && z) ≡ (t && (m && d && z))
turned true true d z = refl
turned true false d z = refl
turned false true d z = refl
turned false false d z = refl

module _ (w : List ℤ) (l : header_words ≤ length w) where
  first-word : (k : ℕ) → k < header_words → word (take header_words w) k ≡ word w k
  first-word k h = word-part w 0 header_words k h ∙ ap (word w) (zero-add k)

  pub terms-first : terms_of (take header_words w) ≡ terms_of w
  terms-first = rw (first-word 1 (omega arith), first-word 2 (omega arith), first-word 3 (omega arith), first-word 4 (omega arith), first-word 7 (omega arith))

  pub next-first : next_day (take header_words w) ≡ next_day w
  next-first = rw (first-word 5 (omega arith))

  terms-words-first : terms_words_fit (take header_words w) ≡ terms_words_fit w
  unfolding terms_words_fit
  terms-words-first = ap₂ ◌&&◌ (ap terms_fit terms-first) (ap (le_z (pos 0)) (first-word 7 (omega arith)))

  zeros-first : blank (part (take header_words w) 9 55) ≡ all header_padding_words (λ n. is_zero (word w (header_padding n)))
  zeros-first = blank_part (take header_words w) 9 55 (simp length-take (omega arith)) ∙ all_same header_padding_words _ _ (λ k h. ap is_zero (first-word (9 + k) (omega arith)))

  -- by its words, terms first
  pub header-by_first : header_fits w ≡ (terms_words_fit (take header_words w) && (between (pos book_mark) (pos book_mark) (word (take header_words w) mark_word) && next_day_fits (take header_words w) && blank (part (take header_words w) 9 55)))
  unfolding header_fits
  header-by_first =
      turned (between (pos book_mark) (pos book_mark) (word w mark_word)) (terms_words_fit w) (next_day_fits w) (all header_padding_words (λ n. is_zero (word w (header_padding n))))
      ∙ sym (rw (terms-words-first, zeros-first, first-word 0 (omega arith), first-word 4 (omega arith), first-word 5 (omega arith)))

-- ---- The balances

-- account a's eight words, as they are lent
pub account-balance : (w : List ℤ) (k a : ℕ) → header_words + a * balance_words + balance_words ≤ length w
    → (leb (nat_abs (word (part w (header_words + a * balance_words) balance_words) 0)) (k * day_bound) && blank (drop 1 (part w (header_words + a * balance_words) balance_words))) ≡ balance_words_fit w k a
unfolding balance_words_fit sum_fits
account-balance w k a l =
    let i = header_words + a * balance_words in
    let first : i + 0 ≡ balance_word a = omega arith in
    let later : (j : ℕ) → i + 1 + j ≡ balance_padding a j = λ j. omega arith in
    ap₂ ◌&&◌
    (rw (word-part w i balance_words 0 (omega arith), first, one-mul))
    (ap blank (drop-take 1 7 (drop i w) ∙ ap (take 7) (drop-drop 1 i w)) ∙ blank_part w (i + 1) 7 (omega arith) ∙ all_same 7 _ _ (λ j h. ap (λ (m : ℕ). is_zero (word w m)) (later j)))

-- those of n accounts
pub all-balances : (w : List ℤ) (k n : ℕ) → balance_word n ≤ length w
    → all n (λ a. leb (nat_abs (word (part (part w header_words (balance_words * n)) (a * balance_words) balance_words) 0)) (k * day_bound) && blank (drop 1 (part (part w header_words (balance_words * n)) (a * balance_words) balance_words))) ≡ balances_fit w k n
all-balances w k n l = all_same n _ _ (λ a h.
    ap (λ (x : List ℤ). leb (nat_abs (word x 0)) (k * day_bound) && blank (drop 1 x)) (part-part w header_words (balance_words * n) (a * balance_words) balance_words (omega arith))
    ∙ account-balance w k a (omega arith))
