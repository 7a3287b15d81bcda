pub mod Names
pub mod Hex
pub mod BodyWord
pub mod CallMessage
pub mod Made
pub mod OfRun
