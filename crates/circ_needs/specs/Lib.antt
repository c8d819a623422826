pub mod Observing
pub mod Owing
pub mod Needs
pub mod Places
