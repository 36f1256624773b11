pub mod Integer
pub mod Below
pub mod Words
pub mod Nearest
