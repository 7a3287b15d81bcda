pub mod Word
pub mod Script
pub mod Transcript
pub mod Reading
pub mod Again
