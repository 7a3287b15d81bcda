pub mod Traffic
pub mod Rules
pub mod Report
pub mod Reading
pub mod Watching
