pub mod Used
pub mod Deed
pub mod RewritingDeed
pub mod Account
pub mod Descents
pub mod Telling
pub mod Tracing
pub mod TurnText
