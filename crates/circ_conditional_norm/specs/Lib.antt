pub mod Work
pub mod Tries
pub mod Norm
pub mod Sure
pub mod Within
pub mod Examples
