use Rattle.std.specs.Prelude.{◌+◌, ◌-◌, ◌≤◌, length, unwrap_or, option_map, IfOk}
use Rattle.std.specs.Result.{result_ok}
use Rattle.interpreter.specs.declared.Next.{Next}
use Rattle.interpreter.specs.Interpreter.{new_words, most_accounts}
use Rattle.interpreter.specs.Running.{RestOf, Stands}
use Rattle.replay_settle.proofs.run.Given as goal

abbrev pub invariant-loop-next : goal.invariant-loop-next
invariant-loop-next l = record {
  few : IfOk l.next (λ (t : Next). t.accounts ≤ most_accounts);
  within : IfOk l.next (λ (t : Next). t.position ≤ length l.s);
  stands : Stands (RestOf l.s) new_words l.s l.next l.book l.line;
}

-- each turn's position is further on in the input than the last one's
abbrev pub decreases-loop-next : goal.decreases-loop-next
decreases-loop-next l = unwrap_or (option_map (λ (t : Next). length l.s + 1 - t.position) (result_ok l.next)) 0
