pub mod Rules
pub mod Summaries
