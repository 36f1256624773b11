-- `call_without_book` meets its contract: each arm is one of the bytes, and the rest are the calendar's.
use Rattle.std.proofs.Common.{arith}
use Rattle.std.proofs.lemmas.Grind.{common_steps}
use Rattle.replay.specs.Commands.{bookless}
use Rattle.replay.proofs.call_without_book.Goals as goal

pub returns-in_default : goal.returns-in_default
unfolding bookless
returns-in_default c = grind (arith, common_steps)

pub returns-in-86 : goal.returns-in-86
unfolding bookless
returns-in-86 c = rw c.in-86.is

pub returns-in-82 : goal.returns-in-82
unfolding bookless
returns-in-82 c = rw c.in-82.is

pub returns-in-69 : goal.returns-in-69
unfolding bookless
returns-in-69 c = rw c.in-69.is

pub returns-in-84 : goal.returns-in-84
unfolding bookless
returns-in-84 c = rw c.in-84.is

pub returns-in-81 : goal.returns-in-81
unfolding bookless
returns-in-81 c = rw c.in-81.is

pub returns-in-75 : goal.returns-in-75
unfolding bookless
returns-in-75 c = rw c.in-75.is

pub returns-in-85 : goal.returns-in-85
unfolding bookless
returns-in-85 c = rw c.in-85.is
