-- figures and examples
pub mod PackedExamples
