pub mod Elements
pub mod Guids
pub mod Scanning
