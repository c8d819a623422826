pub mod Staying
mod Fronts
mod Splitting
mod Entering
mod Fresh
pub mod Numbering
pub mod Deriving
mod Applied
mod Lines
mod Cutting
