pub mod laws
pub mod Bits
pub mod Ring
