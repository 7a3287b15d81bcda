pub mod Closed
pub mod Keyed
pub mod Objects
pub mod Standard
pub mod Texts
