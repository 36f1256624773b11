-- laws and proofs, in the order in which they lean on each other
pub mod SearchLaws
pub mod SlotsLaws
pub mod SearchSameLaws
pub mod SlotDataLaws
pub mod PostedLaws
pub mod SlotRangedLaws
pub mod WrittenLaws
pub mod SettlingLaws
pub mod CloseLaws
