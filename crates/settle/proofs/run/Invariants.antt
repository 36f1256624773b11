use Rattle.std.specs.Prelude.{◌≡◌, ◌-◌, ◌≤◌, suc, length, unwrap_or, option_map, IfOk}
use Rattle.std.specs.Result.{result_ok}
use Rattle.interpreter.specs.declared.Next.{Next}
use Rattle.interpreter.specs.Interpreter.{new_words, most_accounts}
use Rattle.interpreter.specs.Running.{SomeItem, farthest, Stands}
use Rattle.settle.proofs.run.Given as goal

abbrev pub invariant-loop-next : goal.invariant-loop-next
invariant-loop-next l = record {
  bytes : length l.bytes ≡ length l.initial.bytes;
  few : IfOk l.next (λ (t : Next). t.accounts ≤ most_accounts);
  stands : Stands SomeItem new_words l.opening l.next l.book l.line;
}

-- each turn's position is further on than the last one's
abbrev pub decreases-loop-next : goal.decreases-loop-next
decreases-loop-next l = unwrap_or (option_map (λ (t : Next). suc farthest - t.position) (result_ok l.next)) 0
