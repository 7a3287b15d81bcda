pub mod Announcing
pub mod Emitting
