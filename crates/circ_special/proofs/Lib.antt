pub mod Places
pub mod Larger
pub mod Agreeing
pub mod Sorted
pub mod Distinct
pub mod Instances
pub mod Occurrences
