-- `contents_fit` meets its contract: by `slots-are_days` the slots as they lie are the days of the window.
use Rattle.std.proofs.Common.{◌≡◌, ℕ, ◌+◌, ◌-◌, ◌*◌, sym, ap, ◌∙◌, arith}
use Rattle.integer.proofs.laws.WordsLaws.{lent}
use Rattle.rulebook.specs.Layout.{balance_word, slot_length, ring}
use Rattle.rulebook.specs.WellFormed.{days_fit, contents_fit}
use Rattle.opening.proofs.laws.HeaderLaws.{header-inside}
use Rattle.opening.proofs.laws.LoopLaws.{length-lent}
use Rattle.book.proofs.laws.WalkLaws.{size-by_slots, slots-are_days}
use Rattle.book.proofs.judge.contents_fit.Goals as goal
use Rattle.book.proofs.judge.contents_fit.Goals.{After-book_size-end}

-- where the slots start, and where they end
slots_start : (c : After-book_size-end) → c.balance_word-base.result ≡ balance_word c.args.header.now.terms.accounts
slots_start c = rw (c.balance_word-base.ensures, c.get.ensures.same)

slots_end : (c : After-book_size-end)
    → c.book_size-end.result ≡ c.balance_word-base.result + ring c.args.header.now.terms * slot_length c.args.header.now.terms.accounts
slots_end c =
    let t = c.args.header.now.terms in
    c.book_size-end.ensures ∙ size-by_slots t ∙ ap (λ (n : ℕ). n + ring t * slot_length t.accounts) (sym (slots_start c))

pub mssl_fits-requires : goal.mssl_fits-requires
mssl_fits-requires c = omega (arith, header-inside c.args.header.now.terms)

pub differences_fit-requires : goal.differences_fit-requires
differences_fit-requires c = omega (arith, header-inside c.args.header.now.terms)

pub balances_fit-requires : goal.balances_fit-requires
balances_fit-requires c = omega (arith, header-inside c.args.header.now.terms)

pub slice_bounds-slots_fit-count : goal.slice_bounds-slots_fit-count
slice_bounds-slots_fit-count c = omega (arith, slots_end (goal.at.slice_bounds-slots_fit-count c).After-book_size-end)

pub slice_bounds-slots_fit-start : goal.slice_bounds-slots_fit-start
slice_bounds-slots_fit-start c = omega (arith, slots_end (goal.at.slice_bounds-slots_fit-start c).After-book_size-end)

pub slots_fit-requires : goal.slots_fit-requires
slots_fit-requires c =
    let t = c.args.header.now.terms in
    let e = slots_end (goal.at.slots_fit-requires c).After-book_size-end in
    (c.closes.ensures.1, rw e (length-lent c.args.book.now c.balance_word-base.result (ring t * slot_length t.accounts) (omega (arith, c.book_size-end.ensures, e))))

pub returns : goal.returns
unfolding contents_fit
returns c =
    let h = c.args.header.now in
    let t = h.terms in
    let k = h.next - t.first in
    let d = (goal.at.returns c).After-book_size-end in
    let a = c.get.ensures.accepted in
    let n : t.first + k ≡ h.next = omega (arith, h.begun) in
    let e : c.slots_fit.result ≡ days_fit t c.args.book.now (t.first + k)
    = c.slots_fit.ensures ∙ rw (c.closes.ensures.0, slots_end d, lent c.args.book.now c.balance_word-base.result (ring t * slot_length t.accounts), slots_start d) (slots-are_days t c.args.book.now k a.horizon_from c.requires) in
    rw (c.mssl_fits.ensures, c.differences_fit.ensures, c.balances_fit.ensures, e, n)
