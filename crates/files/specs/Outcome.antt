-- A verdict on a stretch of the file, with the number that goes on where it is accepted. Assumes nothing.
use Rattle.std.specs.Prelude.{ℕ, Result, Ok, Err}
use Rattle.rulebook.specs.declared.Refusal.{Refusal}
use Rattle.rulebook.specs.declared.Why.{Why}
use Rattle.rulebook.specs.Judging.{Verdict, number_in}

abbrev pub outcome : Verdict → ℕ → Result ℕ Refusal
outcome (Ok _) n = Ok n
outcome (Err r) n = Err r

-- a field that was read at `at`: whole, and from low to high
abbrev pub field_outcome : Result ℕ Refusal → ℕ → ℕ → ℕ → Why → Result ℕ Refusal
field_outcome (Ok v) at low high why = outcome (number_in low high why v at) v
field_outcome (Err r) at low high why = Err r
