pub mod Steps
pub mod Gone
pub mod Fronts
pub mod Whole
pub mod Asked
pub mod Kept
pub mod Spends
