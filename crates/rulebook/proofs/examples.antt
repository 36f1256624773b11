-- figures and examples
pub mod Figures
pub mod WorkedDay
pub mod Examples
pub mod AmountExamples
pub mod LayoutExamples
pub mod BookExamples
pub mod FileExamples
pub mod DataExamples
pub mod NumberExamples
pub mod InputExamples
pub mod ProfileExamples
pub mod CallExamples
pub mod SubmitExamples
pub mod HistoryExamples
pub mod EditionExamples
pub mod SearchExamples
pub mod EncodingExamples
