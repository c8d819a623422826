pub mod Rules
pub mod Searchables
pub mod Fitting
