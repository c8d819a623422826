pub mod Special
pub mod Guarded
pub mod Places
pub mod Fitting
pub mod Occurrences
