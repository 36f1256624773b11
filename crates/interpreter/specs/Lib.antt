pub mod Interpreter
pub mod Running
