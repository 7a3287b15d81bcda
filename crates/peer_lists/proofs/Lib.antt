pub mod Counting
pub mod Steps
pub mod Views
pub mod Cloning
