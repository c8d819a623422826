pub mod Tokens
pub mod Places
pub mod Parts
pub mod Stops
mod Walk
mod Texts
mod Growing
pub mod Once
pub mod TextOnce
pub mod StatementOnce
pub mod GoalTerms
pub mod Coming
pub mod Total
