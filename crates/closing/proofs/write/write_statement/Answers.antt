-- `write_statement` meets its contract: the slots of D and of r are in range; what is posted from them is the rule book's.
use Rattle.std.proofs.Common.{◌≡◌, ◌≤◌, List, ℕ, ℤ, length, set, Option, sym, ap, ◌∙◌, subst, arith}
use Rattle.integer.proofs.Bits.{got}
use Rattle.integer.specs.Below.{sum_ℤ}
use Rattle.integer.specs.Words.{word, filled}
use Rattle.rulebook.specs.DayAmount.{minus_sum}
use Rattle.amounts.specs.Day.{Then, slot_cents, slot_difference}
use Rattle.closing.specs.Slots.{slot_words, settled_then}
use Rattle.closing.specs.Written.{Small, with_mssl}
use Rattle.closing.proofs.laws.SlotsLaws.{then-accounts}
use Rattle.closing.proofs.laws.SettlingLaws.{today_ranged, amounts-small, amounts-room, statement-same, settling_difference}
use Rattle.closing.proofs.laws.WrittenLaws.{long-lent, small-lent, minus-lent}
use Rattle.closing.proofs.write.write_statement.Goals as goal
use Rattle.closing.proofs.write.write_statement.Goals.{After-post_amounts-difference}

pub slot_of-today-requires : goal.slot_of-today-requires
slot_of-today-requires c =
    let s = c.requires.0 in
    (s.book.room, s.book.begun, today_ranged c.args.book.now c.args.formed.now.terms c.args.formed.now.next s)

pub post_amounts-difference-requires : goal.post_amounts-difference-requires
post_amounts-difference-requires c =
    let f = c.args.formed.now in
    let n = c.slot_of-today.ensures.accounts in
    (λ x e. then-accounts f.terms f.next c.args.book.now x (sym c.settled_of-then.ensures ∙ e) ∙ sym n, omega (arith, n, c.requires.1))

-- the amounts posted, and what they leave, as the rule book has their slots
posted-cong : (st : List ℤ) {n m : ℕ} {x y : List ℤ} {t u : Option Then} → n ≡ m → x ≡ y → t ≡ u → filled n (slot_cents n x t) st ≡ filled m (slot_cents m y u) st
posted-cong st a b d = cc

left-cong : {n m : ℕ} {x y : List ℤ} {t u : Option Then} → n ≡ m → x ≡ y → t ≡ u → sum_ℤ n (slot_difference n x t) ≡ sum_ℤ m (slot_difference m y u)
left-cong a b d = cc

posted : (c : After-post_amounts-difference) → c.post_amounts-difference.new.statement
    ≡ filled c.args.formed.now.terms.accounts
    (slot_cents c.args.formed.now.terms.accounts (slot_words c.args.formed.now.terms c.args.book.now c.args.formed.now.next) (settled_then c.args.formed.now.terms c.args.book.now c.args.formed.now.next))
    c.args.statement.now
posted c = c.post_amounts-difference.ensures.statement ∙ posted-cong c.args.statement.now c.slot_of-today.ensures.accounts c.slot_of-today.ensures.words c.settled_of-then.ensures

pub mssl_amount-requires : goal.mssl_amount-requires
mssl_amount-requires c =
    let f = c.args.formed.now in
    let w = c.args.book.now in
    let st = c.args.statement.now in
    let k = c.requires.0 in
    let n = c.slot_of-today.ensures.accounts in
    let e = posted (goal.at.mssl_amount-requires c).After-post_amounts-difference in
    let s : Small c.slot_of-today.result.accounts c.post_amounts-difference.new.statement = rw n (subst (Small f.terms.accounts) (sym e) (amounts-small w f.terms f.next k st c.requires.1)) in
    (small-lent c.slot_of-today.result.accounts c.post_amounts-difference.new.statement s.room s, omega (arith, n, long-lent c.slot_of-today.result.accounts c.post_amounts-difference.new.statement s.room, k.book.in_terms.accounts_to))

-- the MSSL's word, as the rule book has it
mssl-cong : {n m : ℕ} {st u : List ℤ} {y : ℤ} → y ≡ minus_sum n (word st) → n ≡ m → st ≡ u → set st n y ≡ with_mssl m u
unfolding with_mssl
mssl-cong e f g = rw (e, f, g)

pub returns-clause-difference : goal.returns-clause-difference
returns-clause-difference c =
    let f = c.args.formed.now in
    let d = c.post_amounts-difference in
    got d.result d.type_inv ∙ d.ensures.difference ∙ left-cong c.slot_of-today.ensures.accounts c.slot_of-today.ensures.words c.settled_of-then.ensures
    ∙ settling_difference c.args.book.now f.terms f.next c.requires.0

pub returns-clause-statement : goal.returns-clause-statement
returns-clause-statement c =
    let f = c.args.formed.now in
    let w = c.args.book.now in
    let st = c.args.statement.now in
    let m = c.mssl_amount in
    let e = posted (goal.at.returns-clause-statement c).After-post_amounts-difference in
    let n = c.slot_of-today.ensures.accounts in
    let l : c.slot_of-today.result.accounts ≤ length c.post_amounts-difference.new.statement = omega (arith, n, ap length e, amounts-room w f.terms f.next c.requires.0 st c.requires.1) in
    mssl-cong (got m.result m.type_inv ∙ m.ensures ∙ minus-lent c.slot_of-today.result.accounts c.post_amounts-difference.new.statement l) n e
    ∙ statement-same w f.terms f.next c.requires.0 st c.requires.1
