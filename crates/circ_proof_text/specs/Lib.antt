pub mod Examples
pub mod TableText
pub mod Checks
pub mod ProofText
pub mod Parts
pub mod Reading
