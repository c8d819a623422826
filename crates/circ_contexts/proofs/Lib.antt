pub mod Adding
pub mod Starting
pub mod Listing
pub mod Gathering
pub mod Dropping
pub mod Needing
