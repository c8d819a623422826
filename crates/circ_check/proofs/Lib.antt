pub mod Behaving
mod Named
pub mod Fitting
pub mod Finding
mod Numbered
pub mod Watching
mod Whole
