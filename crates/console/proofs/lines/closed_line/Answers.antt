-- `closed_line` meets its contract: three numbers, then one amount after another. Rests on `put-more` and the library's text of a number.
use Rattle.std.specs.Prelude.{◌≤◌, ◌^◌, nat_abs, length}
use Rattle.std.proofs.Common.{rules, ap, ◌∙◌, arith, take_all, SFits, w64}
use Rattle.std.proofs.lemmas.Int.{to_z-of_z}
use Rattle.integer.specs.Words.{word}
use Rattle.integer.proofs.laws.IntegerLaws.{int}
use Rattle.integer.proofs.Bits.{known}
use Rattle.console.specs.Decimal.{signed_decimal}
use Rattle.console.specs.Lines.{closed_line}
use Rattle.console.proofs.laws.DecimalLaws.{decimal-is, signed-is}
use Rattle.console.proofs.laws.LinesLaws.{put-none, put-next, put-more}
use Rattle.console.proofs.lines.closed_line.Goals as goal

pub loop-amount-init : goal.loop-amount-init
loop-amount-init o c =
    let e = ap length c.clear.ensures in
    record {
      put = put-none c.put_number-3.new.self;
      short = omega (arith, e, c.put.ensures.grown, c.put_number.ensures.grown, c.put_number-2.ensures.grown, c.put_number-3.ensures.grown);
    }

pub loop-amount-preserved : goal.loop-amount-preserved
loop-amount-preserved o c =
    let amount = word c.args.amounts.now c.loop-amount.amount-index in
    let f : SFits w64 amount = search rules in
    let k = known f in
    let s = f.sfits in
    let small : nat_abs amount ≤ 2 ^ 63 = omega (int, k, s) in
    let put = c.put_number-in-loop-amount.ensures in
    record {
      put = (rw (to_z-of_z w64 amount f, signed-is amount small) at put.after) ∙ put-next signed_decimal c.args.amounts.now _ c.put_number-3.new.self c.loop-amount.line c.loop-amount-test.true c.loop-amount.invariant.put;
      short = omega (arith, put.grown, c.loop-amount.invariant.short);
    }

pub returns : goal.returns
unfolding closed_line
returns o c =
    let all = take_all c.loop-amount.amount-index c.args.amounts.now c.loop-amount-test.false in
    rw (c.put-2.ensures.after, c.loop-amount.invariant.put, all)
    (put-more _ _ _ _ _ _ (rw (c.put_number-3.ensures.after, c.put_number-2.ensures.after, c.put_number.ensures.after, c.put.ensures.after, c.clear.ensures, decimal-is 0 (omega arith), decimal-is c.args.figures.day (search rules), decimal-is c.args.figures.count (search rules))))
