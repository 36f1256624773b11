use Rattle.replay.specs.Frames.{Ran}
use Rattle.replay.proofs.run.Given as goal

abbrev pub invariant-loop : goal.invariant-loop
invariant-loop l = Ran l.initial.book l.book
