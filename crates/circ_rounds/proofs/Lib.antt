pub mod Closing
pub mod Hindered
pub mod Rounding
pub mod Running
pub mod Standing
