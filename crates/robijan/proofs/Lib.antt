pub mod laws
pub mod RobijanTheorems
