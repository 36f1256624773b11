pub mod Cell
pub mod Interval
pub mod Total
pub mod Day
pub mod Shares
