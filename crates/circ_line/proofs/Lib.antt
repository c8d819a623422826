pub mod Many
pub mod Decimals
pub mod Parts
pub mod FieldTexts
pub mod LineTexts
pub mod OneText
pub mod TakenBack
pub mod TwoParts
