-- laws, in the order in which they lean on each other
pub mod CellLaws
pub mod IntervalLaws
pub mod DayLaws
pub mod SharesLaws
