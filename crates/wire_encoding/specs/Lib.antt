pub mod Encoding
pub mod Reading
pub mod Walking
pub mod ReaderView
pub mod Promises
pub mod Each
