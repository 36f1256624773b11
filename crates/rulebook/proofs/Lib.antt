pub mod laws
pub mod examples
pub mod FileTheorems
pub mod Theorems
