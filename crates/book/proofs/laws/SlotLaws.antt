-- The tests of a part are the rule book's tests of the words that it is lent. Assumes nothing.
use Rattle.std.specs.Prelude.{◌≡◌, Bool, cond, List, ℕ, ◌+◌, ◌-◌, ◌*◌, ◌/◌, ◌≤◌, ◌<◌, ℤ, length}
use Rattle.std.proofs.Math.Path.{sym, ap}
use Rattle.std.proofs.Common.{◌∙◌, le-leb, add-mul, mul_assoc, arith}
use Rattle.std.proofs.Math.Bool.{true, false}
use Rattle.integer.specs.Below.{all}
use Rattle.integer.specs.Words.{word, part}
use Rattle.integer.proofs.laws.WordsLaws.{row_fits_lem, length_part}
use Rattle.rulebook.specs.declared.Terms.{Terms}
use Rattle.rulebook.specs.Units.{intervals}
use Rattle.rulebook.specs.Layout.{interval_words, account_words, interval_length, slot_length, interval_size, base, interval_word}
use Rattle.rulebook.proofs.laws.TestLaws.{all_same}
use Rattle.rulebook.proofs.laws.FitsLaws.{interval-same}
use Rattle.rulebook.specs.WellFormed.{is_zero, interval_fits, interval_blank, interval_at, slot_blank, dated_fits}
use Rattle.opening.specs.Blank.{blank}
use Rattle.opening.proofs.laws.LoopLaws.{word-part}
use Rattle.opening.proofs.laws.BlankLaws.{all_rows}
use Rattle.book.specs.Parts.{interval_told, intervals_fit, slot_fits}

-- ---- A slot

-- word m of slot t, by intervals
index : (t i s m : ℕ) → (t * intervals + i) * s + m ≡ t * (intervals * s) + (i * s + m)
index t i s m = let e = add-mul (t * intervals) i s in let f = mul_assoc t intervals s in omega arith

module _ (o : Terms) (w : List ℤ) (t : ℕ) (xs : List ℤ)
    (same : (m : ℕ) → m < slot_length o.accounts → word xs m ≡ word w (base o + (t * slot_length o.accounts + m))) where
  interval-words : (i : ℕ) → i < intervals → (m : ℕ) → m < interval_length o.accounts → word xs (i * interval_length o.accounts + m) ≡ interval_at o w t i m
  unfolding interval_word interval_size
  interval-words i hi m hm =
      same (i * interval_length o.accounts + m) (omega (arith, row_fits_lem i intervals (interval_length o.accounts) hi))
      ∙ rw (index t i (interval_length o.accounts) m)

  intervals-are : (closed : Bool) → intervals_fit o.accounts closed xs ≡ dated_fits o w closed t
  unfolding intervals_fit dated_fits
  intervals-are closed = all_same intervals _ _ (λ i hi. interval-same o.accounts closed (λ m. word xs (i * interval_length o.accounts + m)) (interval_at o w t i) (interval-words i hi))

  blank-is : length xs ≡ slot_length o.accounts → blank xs ≡ slot_blank o w t
  unfolding blank slot_blank interval_blank
  blank-is l =
      ap (λ (n : ℕ). all n (λ k. is_zero (word xs k))) l
      ∙ sym (all_rows intervals (interval_length o.accounts) (λ k. is_zero (word xs k)))
      ∙ all_same intervals _ _ (λ i hi. all_same (interval_length o.accounts) _ _ (λ m hm. ap is_zero (interval-words i hi m hm)))

  pub slot_is : length xs ≡ slot_length o.accounts → (dated closed : Bool) → slot_fits o.accounts dated closed xs ≡ cond dated (dated_fits o w closed t) (slot_blank o w t)
  unfolding slot_fits
  slot_is l true closed = intervals-are closed
  slot_is l false closed = blank-is l

-- ---- A slot's intervals, as they are lent

one-lent : (n : ℕ) (closed : Bool) (xs : List ℤ) (i : ℕ) → length xs ≡ slot_length n → i < intervals
    → interval_told closed (part xs (i * interval_length n) (interval_length n)) ≡ interval_fits n closed (λ m. word xs (i * interval_length n + m))
unfolding interval_told
one-lent n closed xs i l h =
    let s = interval_length n in
    let e : length (part xs (i * s) s) ≡ s = length_part xs (i * s) s (omega (arith, row_fits_lem i intervals s h)) in
    let k : (length (part xs (i * s) s) - interval_words) / account_words ≡ n = ap (λ m. (m - interval_words) / account_words) e ∙ omega arith in
    let some : interval_words ≤ length (part xs (i * s) s) = omega arith in
    rw (le-leb interval_words (length (part xs (i * s) s)) some, k)
    (interval-same n closed (word (part xs (i * s) s)) (λ m. word xs (i * s + m)) (word-part xs (i * s) s))

pub intervals-lent : (n : ℕ) (closed : Bool) (xs : List ℤ) → length xs ≡ slot_length n → length xs / interval_length n ≡ intervals
    → all (length xs / interval_length n) (λ i. interval_told closed (part xs (i * interval_length n) (interval_length n))) ≡ intervals_fit n closed xs
unfolding intervals_fit
intervals-lent n closed xs l k =
    ap (λ (m : ℕ). all m (λ i. interval_told closed (part xs (i * interval_length n) (interval_length n)))) k
    ∙ all_same intervals _ _ (λ i h. one-lent n closed xs i l h)
