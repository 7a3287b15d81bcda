pub mod Arguments
pub mod Peer
pub mod Introspectable
pub mod Properties
pub mod ObjectManager
pub mod Method
pub mod Standing
