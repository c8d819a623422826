pub mod Words
pub mod Outside
pub mod Heads
pub mod Attributes
pub mod Said
pub mod Statement
pub mod Reading
pub mod Examples
