pub mod Answering
pub mod Searchable
pub mod Differing
