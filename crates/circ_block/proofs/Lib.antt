pub mod DeepChains
pub mod Lemmas
pub mod Limited
