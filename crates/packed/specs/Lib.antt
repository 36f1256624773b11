pub mod Packed
pub mod PackedTable
pub mod Pairs
