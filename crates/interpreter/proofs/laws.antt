-- laws and proofs, in the order in which they lean on each other
pub mod InterpreterLaws
pub mod RunningLaws
pub mod PrintedLaws
pub mod ExamplesProof
