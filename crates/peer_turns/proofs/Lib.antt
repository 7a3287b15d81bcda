pub mod Reached
pub mod Standards
pub mod Answering
pub mod Announcing
pub mod Turned
pub mod Replies
pub mod Transcripts
