pub mod Plain
pub mod Parts
pub mod Making
pub mod Joining
