pub mod Arguments
pub mod Chained
pub mod Left
pub mod Fields
pub mod Bodies
