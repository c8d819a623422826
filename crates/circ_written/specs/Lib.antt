pub mod Nodes
pub mod Rows
pub mod Values
pub mod Writing
