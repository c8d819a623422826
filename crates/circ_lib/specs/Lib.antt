pub mod Bits
pub mod Stream
pub mod Tree
pub mod Lang
pub mod Proc
pub mod Library
