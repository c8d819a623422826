pub mod Accounts
pub mod Deeds
pub mod Listing
pub mod Telling
pub mod Traces
pub mod Turning
