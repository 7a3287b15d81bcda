pub mod Count
pub mod Generated
pub mod Counted
