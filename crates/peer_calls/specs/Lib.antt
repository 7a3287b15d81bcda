pub mod Names
pub mod Calls
pub mod History
pub mod Issuing
pub mod Refinement
pub mod Keeping
pub mod Placing
