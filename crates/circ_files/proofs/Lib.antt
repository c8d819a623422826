pub mod Rules
pub mod FileFaults
pub mod Readings
pub mod Scripts
pub mod Pieces
