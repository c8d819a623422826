pub mod ByteKinds
pub mod Prefix
pub mod Cutting
pub mod Once
pub mod Ordered
pub mod Texts
pub mod Whole
