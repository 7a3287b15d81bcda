pub mod Ascending
pub mod Bodies
pub mod Depths
pub mod Sorting
pub mod Told
