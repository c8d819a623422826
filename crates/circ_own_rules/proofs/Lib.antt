pub mod TermOrder
pub mod FirstRule
pub mod Sweeps
pub mod Uses
pub mod Matches
