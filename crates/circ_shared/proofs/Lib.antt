mod Made
mod Loops
mod Shapes
mod Replacing
pub mod Giving
mod Seeing
pub mod Sharing
mod Paired
mod Using
mod AsTheyStand
mod Steps
mod Meets
pub mod Cases
mod Lighter
