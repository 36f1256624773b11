-- `step` meets its contract: at the end of the input no frame was read, which a byte that starts none tells.
use Rattle.std.proofs.Common.{refl, arith}
use Rattle.replay.specs.Commands.{starts, bookless, calendar_command}
use Rattle.replay.specs.Frames.{kept}
use Rattle.replay.proofs.step.Goals as goal

pub returns-in-None : goal.returns-in-None
unfolding starts bookless calendar_command
returns-in-None c =
    record { command = 0; framed = kept (λ e. omega arith) (λ e. omega arith) (λ e. omega arith) (λ e. omega arith) refl; more_is = refl }
