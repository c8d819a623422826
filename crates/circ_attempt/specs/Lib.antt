pub mod Below
pub mod Rules
pub mod Passes
pub mod Attempt
pub mod Search
pub mod Following
pub mod RewritingSearch
pub mod Examples
