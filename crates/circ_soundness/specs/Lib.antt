pub mod Levels
pub mod Example
pub mod GateExample
