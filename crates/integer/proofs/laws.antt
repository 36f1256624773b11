-- laws and proofs, in the order in which they lean on each other
pub mod IntegerLaws
pub mod BelowLaws
pub mod CountLaws
pub mod WordsLaws
pub mod NearestAbsLaws
pub mod NearestLaws
pub mod ChunkLaws
pub mod TestsLaws
