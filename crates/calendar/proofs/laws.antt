-- laws and proofs, in the order in which they lean on each other
pub mod YearLaws
pub mod DateLaws
pub mod HolidayLaws
pub mod BusinessLaws
pub mod CalendarLaws
pub mod CalendarWordLaws
pub mod CalendarTableLaws
