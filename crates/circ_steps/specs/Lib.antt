pub mod States
pub mod Derivatives
pub mod Judging
