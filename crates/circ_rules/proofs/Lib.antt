pub mod Simplifying
pub mod Splitting
pub mod Starting
pub mod Next
pub mod Making
pub mod Meaning
