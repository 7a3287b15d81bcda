pub mod Serving
pub mod Dispatching
pub mod Standard
pub mod Served
pub mod Reaching
pub mod Announcing
pub mod Notifying
pub mod Placing
