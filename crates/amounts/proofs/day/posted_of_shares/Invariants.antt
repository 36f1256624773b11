use Rattle.std.proofs.Common.{◌≡◌, ◌*◌, ◌≤◌, nat_abs}
use Rattle.amounts.specs.Shares.{shares_total}
use Rattle.amounts.proofs.day.posted_of_shares.Given as goal

abbrev pub invariant-loop-h : goal.invariant-loop-h
invariant-loop-h l =
    (l.total ≡ shares_total l.today.accounts l.today.words.now l.then l.shares l.a l.h)
    × (nat_abs l.total.thousandths ≤ l.h * 100000000000000)
