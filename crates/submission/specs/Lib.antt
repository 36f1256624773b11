pub mod Marks
pub mod Stored
