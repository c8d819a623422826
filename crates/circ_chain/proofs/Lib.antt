pub mod Standings
pub mod Chains
pub mod Tops
pub mod Settling
pub mod Roots
pub mod Unique
pub mod Listing
pub mod Keeping
