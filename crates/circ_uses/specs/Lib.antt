pub mod Certificates
pub mod Fronts
pub mod Guards
pub mod Paths
pub mod Starting
pub mod Uses
pub mod Valuations
