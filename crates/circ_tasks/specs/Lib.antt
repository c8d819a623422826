pub mod Settings
pub mod Tasks
