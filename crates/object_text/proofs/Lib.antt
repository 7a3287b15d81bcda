pub mod Among
pub mod Elements
pub mod Finishing
pub mod Fronts
