-- `amounts_sum` meets its contract: each turn adds one amount; 32 of them are below 2 × 10^14.
use Rattle.std.proofs.Common.{◌≡◌, List, ℕ, ◌≤◌, ◌<◌, ℤ, pos, ◌+ℤ◌, length, refl, sym, ◌∙◌, arith, rules, SFits, w64}
use Rattle.std.proofs.lemmas.Int.{to_z-of_z}
use Rattle.integer.specs.Below.{fold, sum_ℤ}
use Rattle.integer.proofs.Bits.{fits-add}
use Rattle.integer.proofs.laws.BelowLaws.{fold-suc}
use Rattle.integer.specs.Words.{word}
use Rattle.rulebook.specs.Shares.{most_accounts}
use Rattle.closing.specs.Written.{Small}
use Rattle.closing.proofs.laws.WrittenLaws.{amounts-le}
use Rattle.closing.proofs.statement.amounts_sum.Goals as goal

-- a turn's sum, of the amount read back
fits : (w : List ℤ) (i : ℕ) {s x : ℤ} → Small (length w) w → length w ≤ most_accounts → i < length w → s ≡ sum_ℤ i (word w) → x ≡ word w i → SFits w64 (s +ℤ x)
fits w i {s} {x} small few h e f = fits-add s x (rw (e, f) (omega (arith, amounts-le (length w) i w small (omega arith), small.each i h, few)))

pub loop-amount-init : goal.loop-amount-init
unfolding fold
loop-amount-init c = refl

pub overflow_add-sum : goal.overflow_add-sum
overflow_add-sum c =
    let l = c.loop-amount in
    let w = c.args.amounts.now in
    let f : SFits w64 (word w l.amount-index) = search rules in
    fits w l.amount-index c.requires.0 c.requires.1 c.loop-amount-test.true l.invariant (to_z-of_z w64 _ f)

pub loop-amount-preserved : goal.loop-amount-preserved
loop-amount-preserved c =
    let l = c.loop-amount in
    let w = c.args.amounts.now in
    let f : SFits w64 (word w l.amount-index) = search rules in
    let e = to_z-of_z w64 _ f in
    to_z-of_z w64 _ (fits w l.amount-index c.requires.0 c.requires.1 c.loop-amount-test.true l.invariant e)
    ∙ rw (e, l.invariant) (sym (fold-suc ◌+ℤ◌ (pos 0) l.amount-index (word w)))
