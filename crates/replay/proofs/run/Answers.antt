-- `run` meets its contract: a frame a turn.
use Rattle.replay.specs.Frames.{begun, next}
use Rattle.replay.proofs.run.Goals as goal

pub loop-init : goal.loop-init
loop-init c = begun

pub loop-preserved : goal.loop-preserved
loop-preserved c = next c.loop.invariant c.step.ensures

pub returns-then-not-step : goal.returns-then-not-step
returns-then-not-step c = next c.loop.invariant c.step.ensures

pub returns-after-loop : goal.returns-after-loop
returns-after-loop c = c.loop.invariant
