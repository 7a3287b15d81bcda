pub mod Names
pub mod History
pub mod Refinement
pub mod Rules
pub mod Streams
pub mod Subscriptions
pub mod Keeping
pub mod Arriving
