pub mod Ascii
pub mod BusName
pub mod Guid
pub mod Names
pub mod Scanning
