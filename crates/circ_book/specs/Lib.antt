pub mod Book
pub mod Histories
