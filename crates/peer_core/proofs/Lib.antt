pub mod BusMessages
pub mod Core
pub mod Drops
pub mod Issues
pub mod Leavings
pub mod Openings
