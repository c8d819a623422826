mod Beginning
mod Ends
mod Finding
pub mod Fronting
pub mod Guarding
pub mod Holes
mod Keeping
mod Overs
pub mod Rising
pub mod Sharing
mod Staging
