pub mod Lists
pub mod Numbering
pub mod Gathering
pub mod Renumbering
pub mod Ruling
pub mod Filling
pub mod Ground
