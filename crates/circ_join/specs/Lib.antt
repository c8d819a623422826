pub mod Hypotheses
pub mod Stopping
pub mod Uses
pub mod Lemmas
pub mod Trying
pub mod Binding
pub mod Sweeping
pub mod Sides
