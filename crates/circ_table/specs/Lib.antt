pub mod Table
pub mod Part
pub mod Line
pub mod Lines
pub mod Keys
pub mod Held
pub mod Placed
