pub mod Patterns
pub mod Variables
