pub mod PlainRefutation
pub mod Difference
pub mod Plain
pub mod Progress
pub mod Examples
