pub mod Number
pub mod Reading
pub mod ReaderView
pub mod Appending
pub mod Limits
