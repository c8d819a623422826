pub mod Stood
pub mod Passed
pub mod Going
pub mod PassRules
