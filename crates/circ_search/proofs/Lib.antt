pub mod Answered
pub mod Bare
