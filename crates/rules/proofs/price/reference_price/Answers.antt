-- `reference_price` meets its contract: V of the lists' sums, or the refusal; what is accepted is in range.
use Rattle.std.proofs.Common.{sym, ◌∙◌, length}
use Rattle.integer.proofs.Bits.{got}
use Rattle.integer.specs.Words.{word}
use Rattle.rulebook.specs.Calls.{price_call}
use Rattle.rulebook.proofs.laws.CallsLaws.{prices-in}
use Rattle.rules.specs.PriceSums.{sums-count, sums-price}
use Rattle.rules.proofs.price.reference_price.Goals as goal

pub returns-then-not-price_input : goal.returns-then-not-price_input
unfolding price_call
returns-then-not-price_input c = rw (← c.price_input.ensures, c.if-not-price_input.true)

pub sums_of-requires : goal.sums_of-requires
sums_of-requires c = prices-in _ _ (sym c.price_input.ensures ∙ c.if-not-price_input.false)

pub price-requires : goal.price-requires
price-requires c =
    let x = c.args.mep.now in
    let y = c.args.ieq.now in
    let p = prices-in x y (sym c.price_input.ensures ∙ c.if-not-price_input.false) in
    let n = sums-count (length x) (word x) (word y) in
    (rw (c.sums_of.ensures, n) p.some, rw (c.sums_of.ensures, n) p.few)

pub returns : goal.returns
unfolding price_call
returns c =
    let x = c.args.mep.now in
    let y = c.args.ieq.now in
    rw (← c.price_input.ensures, c.if-not-price_input.false, got c.price.result c.price.type_inv, c.price.ensures, c.sums_of.ensures, sums-price (length x) (word x) (word y))
