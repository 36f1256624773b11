pub mod Day
pub mod Parts
pub mod Slots
pub mod Judged
