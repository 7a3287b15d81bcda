pub mod Answered
pub mod Bodies
pub mod Zeros
