pub mod Status
pub mod Texts
pub mod Ending
