pub mod Code
pub mod TermOrder
pub mod Rules
pub mod Using
