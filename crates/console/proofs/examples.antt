-- figures and examples
pub mod LineExamples
pub mod InputExamples
