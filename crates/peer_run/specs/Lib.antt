pub mod Names
pub mod Runs
pub mod Asked
pub mod Histories
pub mod Program
