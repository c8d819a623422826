pub mod Store
pub mod Turning
pub mod Trying
pub mod Value
