pub mod Arguments
pub mod Entries
pub mod Kinds
