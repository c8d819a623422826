pub mod Alike
pub mod Casing
mod Depth
mod Derives
pub mod Ending
pub mod Exceeding
mod Exing
pub mod Expanding
mod Going
pub mod Led
mod Lifting
mod Linking
mod Listed
mod Matched
mod Moving
pub mod Numbers
pub mod Occurring
mod Passing
mod Placing
mod Plainness
mod Putting
mod Standing
mod Telling
mod Turning
mod Using
mod Whys
pub mod Working
