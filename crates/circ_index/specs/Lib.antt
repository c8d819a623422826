pub mod Finding
pub mod Indexed
pub mod Keys
pub mod Linked
pub mod OneOf
pub mod Paths
pub mod Walking
