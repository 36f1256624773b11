pub mod Outcome
pub mod Forms
pub mod Judgeable
pub mod Values
pub mod Marks
