pub mod Due
pub mod Answers
pub mod Deriving
pub mod Admitting
pub mod Simplifying
pub mod Derivatives
