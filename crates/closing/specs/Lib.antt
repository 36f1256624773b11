pub mod Search
pub mod Slots
pub mod Written
