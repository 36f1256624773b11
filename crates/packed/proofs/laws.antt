-- laws and proofs, in the order in which they lean on each other
pub mod DigitLaws
pub mod PairLaws
pub mod FieldLaws
pub mod StatementLaws
pub mod PackTableLaws
pub mod UnpackTableLaws
pub mod WrittenBytesLaws
pub mod ThereAndBackLaws
