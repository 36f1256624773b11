-- laws and proofs, in the order in which they lean on each other
pub mod LoopLaws
pub mod ChunkLaws
pub mod WordLaws
pub mod BlankLaws
pub mod HeaderLaws
pub mod OpenLaws
