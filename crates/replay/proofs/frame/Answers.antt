-- `frame` meets its contract: what each call left, and the book kept by any other byte.
use Rattle.std.proofs.Common.{refl, arith}
use Rattle.std.proofs.lemmas.Grind.{common_steps}
use Rattle.replay.specs.Commands.{starts}
use Rattle.replay.specs.Frames.{kept, poking, opening, submission, closing}
use Rattle.replay.proofs.frame.Goals as goal

pub returns-in_default : goal.returns-in_default
unfolding starts
returns-in_default c = (kept (λ e. omega arith) (λ e. omega arith) (λ e. omega arith) (λ e. omega arith) refl, grind (arith, common_steps))

pub returns-in-80 : goal.returns-in-80
unfolding starts
returns-in-80 c = (poking c.in-80.is c.poke.ensures, rw c.in-80.is)

pub returns-in-79 : goal.returns-in-79
unfolding starts
returns-in-79 c = (opening c.in-79.is c.open.ensures, rw c.in-79.is)

pub returns-in-83 : goal.returns-in-83
unfolding starts
returns-in-83 c = (submission c.in-83.is c.submit.ensures, rw c.in-83.is)

pub returns-in-67 : goal.returns-in-67
unfolding starts
returns-in-67 c = (closing c.in-67.is c.close.ensures, rw c.in-67.is)
