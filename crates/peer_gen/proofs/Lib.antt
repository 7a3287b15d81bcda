pub mod Blocks
pub mod Runs
pub mod Counting
