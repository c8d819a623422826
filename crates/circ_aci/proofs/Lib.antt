pub mod Settled
pub mod Sizes
pub mod Finding
pub mod Regroup
pub mod Deriving
pub mod Again
pub mod Joined
pub mod Rows
