pub mod laws
pub mod examples
pub mod PackedTheorems
