pub mod Fitting
pub mod Growing
pub mod Leading
pub mod Linking
pub mod Pairing
pub mod Seating
pub mod Seeking
pub mod Steps
mod Numbered
