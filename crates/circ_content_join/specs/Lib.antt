pub mod Moves
pub mod Apart
pub mod Joining
pub mod Examples
