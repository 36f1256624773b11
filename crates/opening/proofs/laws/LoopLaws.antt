-- What a loop over lent parts and a test with an early return compute. Assumes nothing.
use Rattle.std.specs.Prelude.{◌≡◌, Bool, true, false, not, ◌&&◌, List, ℕ, ◌+◌, ◌-◌, ◌≤◌, ◌<◌, ℤ, length, take, drop}
use Rattle.std.proofs.Common.{sym, ◌∙◌, arith, length-take, length-drop, get_or-take, get_or-drop}
use Rattle.std.proofs.lemmas.Bool.{not-true, not-false}
use Rattle.integer.specs.Below.{all}
use Rattle.integer.proofs.laws.BelowLaws.{fold_step}
use Rattle.integer.specs.Words.{word, part}

-- one more turn of `ok = ok & test`
pub all_step : (n : ℕ) (p : ℕ → Bool) {ok t : Bool} → ok ≡ all n p → t ≡ p n → (ok && t) ≡ all (n + 1) p
all_step = fold_step ◌&&◌ true

-- `if !r { return false; }`, where r is the test t: it was passed, or left at
pub passed : {r t : Bool} → r ≡ t → not r ≡ false → t ≡ true
passed {r} e h = sym e ∙ not-false r h

pub left : {r t : Bool} → r ≡ t → not r ≡ true → t ≡ false
left {r} e h = sym e ∙ not-true r h

-- ---- What is lent of xs from i to i + n

pub length-lent : (xs : List ℤ) (i n : ℕ) → i + n ≤ length xs → length (take (i + n - i) (drop i xs)) ≡ n
length-lent xs i n h = simp (length-take, length-drop) (omega arith)

pub word-part : (xs : List ℤ) (i n k : ℕ) → k < n → word (part xs i n) k ≡ word xs (i + k)
word-part xs i n k h = rw (get_or-take, get_or-drop)
