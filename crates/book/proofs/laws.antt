-- laws and proofs, in the order in which they lean on each other
pub mod RowLaws
pub mod PairLaws
pub mod IntervalLaws
pub mod SlotLaws
pub mod DayLaws
pub mod WalkLaws
pub mod JudgeLaws
pub mod JudgedLaws
