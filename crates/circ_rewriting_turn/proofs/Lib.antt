pub mod Going
pub mod Stood
pub mod Reading
