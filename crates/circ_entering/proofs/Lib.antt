pub mod Entered
pub mod Judged
mod Mentions
pub mod Renumbering
mod Working
