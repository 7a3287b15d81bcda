pub mod SignatureTexts
pub mod Rows
pub mod Found
pub mod Values
pub mod Inside
pub mod Behind
pub mod BodyLaws
pub mod BodyFronts
