pub mod Rules
pub mod Joined
