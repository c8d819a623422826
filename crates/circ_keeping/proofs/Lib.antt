pub mod Marked
pub mod Parted
pub mod Entered
