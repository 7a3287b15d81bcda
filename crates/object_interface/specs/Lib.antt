pub mod Meaning
pub mod Sending
pub mod Errors
pub mod Arguments
pub mod Describing
pub mod Answering
