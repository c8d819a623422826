pub mod Moving
pub mod Alike
pub mod Entries
pub mod Contents
pub mod Joins
pub mod Falls
pub mod Keeps
