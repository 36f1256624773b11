-- `calendar_call` meets its contract: each arm is one of the bytes, and the rest none.
use Rattle.std.proofs.Common.{arith}
use Rattle.std.proofs.lemmas.Grind.{common_steps}
use Rattle.replay.specs.Commands.{calendar_command}
use Rattle.replay.proofs.calendar_calls.calendar_call.Goals as goal

pub returns-in_default : goal.returns-in_default
unfolding calendar_command
returns-in_default c = grind (arith, common_steps)

pub returns-in-100 : goal.returns-in-100
unfolding calendar_command
returns-in-100 c = rw c.in-100.is

pub returns-in-121 : goal.returns-in-121
unfolding calendar_command
returns-in-121 c = rw c.in-121.is

pub returns-in-119 : goal.returns-in-119
unfolding calendar_command
returns-in-119 c = rw c.in-119.is

pub returns-in-115 : goal.returns-in-115
unfolding calendar_command
returns-in-115 c = rw c.in-115.is

pub returns-in-98 : goal.returns-in-98
unfolding calendar_command
returns-in-98 c = rw c.in-98.is

pub returns-in-102 : goal.returns-in-102
unfolding calendar_command
returns-in-102 c = rw c.in-102.is

pub returns-in-109 : goal.returns-in-109
unfolding calendar_command
returns-in-109 c = rw c.in-109.is
