pub mod Asking
pub mod Putting
