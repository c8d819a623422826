pub mod Sizes
mod Bits
pub mod May
pub mod Pushed
mod SortLists
pub mod Marked
