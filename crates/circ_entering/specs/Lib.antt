pub mod Numbered
pub mod Naming
pub mod Lines
pub mod Work
