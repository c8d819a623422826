pub mod Joining
pub mod Search
pub mod Versions
pub mod ConditionalSearch
pub mod Coming
pub mod Examples
