pub mod Encoder
pub mod Writing
pub mod Packed
