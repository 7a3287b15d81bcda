pub mod Credentials
pub mod Dictionary
pub mod Names
pub mod Statistics
