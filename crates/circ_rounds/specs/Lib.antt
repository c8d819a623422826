pub mod Attempting
pub mod Running
