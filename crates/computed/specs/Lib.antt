pub mod TableExamples
pub mod JudgingExamples
pub mod CrossingExamples
pub mod Computed
