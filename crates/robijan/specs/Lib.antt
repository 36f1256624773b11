pub mod Returned
pub mod ClosePacked
