pub mod Script
pub mod Items
pub mod Drafts
pub mod Adding
pub mod Refusing
pub mod ReadsAsScript
pub mod Fit
pub mod Steps
