pub mod SingleType
pub mod SingleTypeCode
pub mod TypeView
pub mod TypeFalls
pub mod Parsing
pub mod Texting
