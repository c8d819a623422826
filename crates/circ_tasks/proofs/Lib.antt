pub mod Advancing
pub mod Assuming
pub mod Background
pub mod Counting
pub mod Entering
pub mod Leaving
pub mod Stepping
