pub mod Line
pub mod Text
pub mod Front
pub mod Read
pub mod Plain
pub mod Written
pub mod Lent
