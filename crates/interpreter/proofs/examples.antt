-- figures and examples
pub mod InterpreterExamples
