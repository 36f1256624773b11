-- an interval's words in figures
pub mod IntervalExamples
-- shares by R and S that are given, in figures
pub mod SharesExamples
