pub mod Chain
pub mod Generating
