pub mod Earlier
pub mod Turning
