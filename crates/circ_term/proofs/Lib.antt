pub mod Trees
pub mod Paths
pub mod Limits
pub mod Instances
pub mod Order
pub mod Within
pub mod Replaced
pub mod Found
