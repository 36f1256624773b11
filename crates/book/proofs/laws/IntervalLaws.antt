-- An interval's own words, and those of its accounts, as they are lent. Assumes nothing.
use Rattle.std.specs.Prelude.{◌≡◌, Bool, true, false, ◌&&◌, List, ℕ, ◌+◌, ◌-◌, ◌*◌, ◌/◌, ◌≤◌, ◌<◌, ℤ, pos, length, take, drop}
use Rattle.std.proofs.Common.{sym, ap, ap₂, ◌∙◌, arith, zero-add, get_or-drop, le-leb}
use Rattle.std.proofs.Math.Bool.{and-true}
use Rattle.std.proofs.lemmas.Bool.{lt-leb}
use Rattle.std.specs.List.{list_all}
use Rattle.std.specs.Simd.{first_chunks}
use Rattle.integer.specs.Below.{all, fold}
use Rattle.integer.specs.Words.{word, part}
use Rattle.rulebook.specs.Layout.{interval_words, account_words, account_place}
use Rattle.rulebook.specs.WellFormed.{account_fits, ncc_fits, interval_fits}
use Rattle.rulebook.proofs.laws.TestLaws.{all_same}
use Rattle.rulebook.proofs.laws.FitsLaws.{account-same, interval-same}
use Rattle.opening.proofs.laws.LoopLaws.{word-part}
use Rattle.opening.proofs.laws.ChunkLaws.{all_chunks}
use Rattle.book.specs.Parts.{interval_told}

ncc-lent : (w : List ℤ) → ncc_fits (word (take interval_words w)) ≡ ncc_fits (word w)
unfolding interval_fits fold
ncc-lent w =
    sym (and-true (ncc_fits (word (take interval_words w))))
    ∙ interval-same 0 true (word (take interval_words w)) (word w) (λ m h. word-part w 0 interval_words m h ∙ ap (word w) (zero-add m))
    ∙ and-true (ncc_fits (word w))

cell-lent : (closed : Bool) (w : List ℤ) (a : ℕ) → account_fits closed (word (part (drop interval_words w) (a * account_words) account_words)) ≡ account_fits closed (λ q. word w (account_place a q))
cell-lent closed w a =
    account-same closed (word (part (drop interval_words w) (a * account_words) account_words)) (λ q. word w (account_place a q))
    (λ q h. word-part (drop interval_words w) (a * account_words) account_words q h ∙ get_or-drop interval_words w (a * account_words + q) (pos 0) ∙ ap (word w) (omega arith))

module _ (closed : Bool) (w : List ℤ) where
  pub too_short : length w < interval_words → interval_told closed w ≡ false
  unfolding interval_told
  too_short h = rw (lt-leb interval_words (length w) h)

  module _ (h : interval_words ≤ length w) where
    -- its own words, then those of each account
    pub by_parts : {own accounts : List ℤ} → own ≡ take interval_words w → accounts ≡ drop interval_words w → length accounts + interval_words ≡ length w
        → (ncc_fits (word own) && list_all (λ x. account_fits closed (word x)) (first_chunks account_words (length accounts / account_words) accounts)) ≡ interval_told closed w
    unfolding interval_told interval_fits
    by_parts {own} {accounts} e f l =
        let n : length accounts / account_words ≡ (length w - interval_words) / account_words = ap (λ i. i / account_words) (omega arith) in
        ap₂ ◌&&◌ (ap (λ (x : List ℤ). ncc_fits (word x)) e ∙ ncc-lent w)
        (all_chunks (λ x. account_fits closed (word x)) account_words (length accounts / account_words) accounts
        ∙ ap₂ (λ (i : ℕ) (x : List ℤ). all i (λ a. account_fits closed (word (part x (a * account_words) account_words)))) n f
        ∙ all_same ((length w - interval_words) / account_words) _ _ (λ a k. cell-lent closed w a))
        ∙ rw (le-leb interval_words (length w) h)
