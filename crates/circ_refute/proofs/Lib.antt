pub mod Normals
pub mod Differences
pub mod Decisions
pub mod Growing
pub mod Origins
pub mod Turning
pub mod Sameness
