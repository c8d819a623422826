pub mod Deciding
pub mod Naming
pub mod Checking
pub mod Ready
pub mod Watching
