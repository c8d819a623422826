pub mod Matcher
pub mod Extending
