use Rattle.std.specs.Prelude.{◌≡◌, ◌*◌, ◌≤◌, nat_abs}
use Rattle.integer.specs.Below.{sum_ℤ}
use Rattle.integer.specs.Words.{filled}
use Rattle.amounts.specs.Day.{sums_before, slot_cents, slot_difference}
use Rattle.closing.proofs.statement.post_amounts.Given as goal

abbrev pub invariant-loop-a : goal.invariant-loop-a
invariant-loop-a l = record {
  sums : l.sums ≡ sums_before l.then l.a;
  difference : l.difference ≡ sum_ℤ l.a (slot_difference l.today.accounts l.today.words.now l.then);
  small : nat_abs l.difference ≤ l.a * 500;
  items : l.amount-items ≡ filled l.a (slot_cents l.today.accounts l.today.words.now l.then) l.initial.amount-items;
}
