pub mod Chain
pub mod Through
pub mod Kept
pub mod Listed
