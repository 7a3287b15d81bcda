pub mod Parts
pub mod Lists
pub mod Packed
pub mod Signs
pub mod Fed
pub mod Types
pub mod Checked
pub mod Printed
