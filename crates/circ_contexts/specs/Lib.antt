pub mod Candidates
pub mod ByTheory
