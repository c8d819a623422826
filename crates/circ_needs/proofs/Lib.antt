pub mod Specials
pub mod Owing
pub mod Observing
pub mod Having
