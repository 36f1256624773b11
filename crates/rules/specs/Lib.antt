pub mod PriceSums
pub mod LoadAndSpare
pub mod PeriodsTold
