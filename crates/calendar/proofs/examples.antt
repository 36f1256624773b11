-- figures and examples
pub mod CalendarExamples
