pub mod Admitting
pub mod Entered
