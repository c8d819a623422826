pub mod Matches
pub mod Languages
pub mod Lang
pub mod Member
pub mod Grammar
pub mod Frames
pub mod Making
