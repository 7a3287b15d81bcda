pub mod TypeTexts
pub mod Elements
pub mod NumberLists
pub mod TextReads
pub mod ArrayReads
pub mod Passing
pub mod ByteReads
pub mod Dicts
