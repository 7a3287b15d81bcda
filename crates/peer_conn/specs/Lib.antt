pub mod Names
pub mod Handles
pub mod Invariant
pub mod Going
