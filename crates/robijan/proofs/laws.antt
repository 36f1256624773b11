-- laws and proofs
pub mod ClosePackedLaws
pub mod ReturnedLaws
