pub mod Calendar
pub mod CalendarTable
pub mod Steps
