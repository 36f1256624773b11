-- laws and proofs, in the order in which they lean on each other
pub mod ToldLaws
pub mod PeriodsToldLaws
