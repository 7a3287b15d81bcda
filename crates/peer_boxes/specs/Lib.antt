pub mod Boxes
pub mod Own
