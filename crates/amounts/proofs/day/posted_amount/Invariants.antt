use Rattle.std.proofs.Common.{◌≡◌, ◌+◌, ◌*◌, ◌≤◌, length, nat_abs}
use Rattle.integer.specs.Words.{filled}
use Rattle.rulebook.specs.Units.{intervals}
use Rattle.amounts.specs.Day.{sum_before, total_to}
use Rattle.amounts.proofs.day.posted_amount.Given as goal

abbrev pub invariant-loop-h : goal.invariant-loop-h
invariant-loop-h l =
    (length l.sums ≡ intervals)
    × (l.total ≡ total_to l.today.accounts l.today.words.now l.then l.a l.h)
    × (nat_abs l.total.thousandths ≤ l.h * 100000000000000)
    × (l.sums ≡ filled l.h (sum_before l.then (l.a + 1)) l.initial.sums)
