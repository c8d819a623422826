pub mod Rules
pub mod Derived
