pub mod Content
pub mod Canonical
pub mod Operands
pub mod Row
pub mod Examples
