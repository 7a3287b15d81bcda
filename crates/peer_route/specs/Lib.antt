pub mod Names
pub mod Replay
pub mod Answers
pub mod Plan
pub mod Entries
pub mod Environment
pub mod Laws
pub mod StreamLaws
