-- laws and proofs, in the order in which they lean on each other
pub mod DecimalLaws
pub mod WrittenLaws
pub mod LinesLaws
pub mod InputLaws
pub mod ReadingLaws
