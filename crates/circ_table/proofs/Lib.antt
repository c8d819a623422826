pub mod Firsts
pub mod Placing
pub mod Finding
pub mod Keyed
pub mod Measuring
pub mod Growing
pub mod Naming
