pub mod Ordered
pub mod Joining
pub mod Folded
pub mod Taken
pub mod Ways
pub mod Settling
pub mod Placed
