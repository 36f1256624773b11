use Rattle.std.specs.Prelude.{◌≡◌, ◌*◌, ◌≤◌, nat_abs}
use Rattle.integer.specs.Below.{sum_ℤ}
use Rattle.integer.specs.Words.{filled}
use Rattle.amounts.specs.Day.{sums_before}
use Rattle.amounts.specs.Shares.{SumsRanged, then_by, cents_by, difference_by}
use Rattle.closing.proofs.statement.post_shared.Given as goal

abbrev pub invariant-loop-a : goal.invariant-loop-a
invariant-loop-a l = record {
  sums : l.sums ≡ sums_before (then_by l.edition l.then) l.a;
  ranged : SumsRanged l.a l.sums;
  difference : l.difference ≡ sum_ℤ l.a (difference_by l.edition l.today.accounts l.today.words.now l.then l.residuals);
  small : nat_abs l.difference ≤ l.a * 500;
  items : l.amount-items ≡ filled l.a (cents_by l.edition l.today.accounts l.today.words.now l.then l.residuals) l.initial.amount-items;
}
