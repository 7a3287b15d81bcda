pub mod Multiples
pub mod Numbers
pub mod Steps
pub mod Appends
