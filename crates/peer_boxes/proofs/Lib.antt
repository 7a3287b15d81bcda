pub mod Answering
pub mod Functions
