-- What open, submit and close answer: what an accepted call gives, or why it is refused. Assumes nothing.
use Rattle.std.specs.Prelude.{Result}
pub use Rattle.rulebook.specs.declared.OpenError.{OpenError}
pub use Rattle.rulebook.specs.declared.SubmitError.{SubmitError}
pub use Rattle.rulebook.specs.declared.CloseError.{CloseError}
pub use Rattle.rulebook.specs.declared.CloseFigures.{CloseFigures}

abbrev pub OpenAnswer : Type 0
OpenAnswer = Result (Unit {0}) OpenError

abbrev pub SubmitAnswer : Type 0
SubmitAnswer = Result (Unit {0}) SubmitError

-- an accepted close's day, residual count and rounding difference
abbrev pub CloseAnswer : Type 0
CloseAnswer = Result CloseFigures CloseError
