pub mod Covering
pub mod Visits
