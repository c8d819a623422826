pub mod Bytes
pub mod Cuts
pub mod TokenList
pub mod Scanning
