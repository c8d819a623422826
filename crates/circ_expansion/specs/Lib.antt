pub mod Answers
pub mod Examples
pub mod Expand
pub mod Followed
pub mod Goals
pub mod Machine
pub mod Pieces
pub mod Trials
