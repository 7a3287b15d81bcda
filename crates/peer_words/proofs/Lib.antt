pub mod BodyWords
pub mod Letters
pub mod Spelled
